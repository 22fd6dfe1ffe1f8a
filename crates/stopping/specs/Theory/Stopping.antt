-- The first table of a walk.
use Rattle.std.specs.Prelude.{ℕ, ◌≡◌, List}
use Rattle.std.proofs.Common.{sym, ap, ◌∙◌}
use Rattle.std.proofs.Math.Option.{some}
use Rattle.format.specs.Limits.{variable_count}
use Rattle.format.specs.Lists.{any}
use Rattle.solving.specs.Walk.{enough, over_limit, opening}
use Rattle.solving.specs.Turns.{table_after}
use Rattle.solving.specs.Always.{is_empty, has_empty}
use Rattle.bindings.specs.ForContracts.PrefixForm.{view_of}
use Rattle.walking.specs.declared.walk.Walk.{Walk}
use Rattle.stopping.specs.ForContracts.Ends.{NoneEmpty}

-- It has no empty line.
pub none_at_first : (nodes sizes : List ℕ) (w : Walk) → w.turns ≡ 0 → NoneEmpty nodes sizes w
unfolding table_after opening has_empty is_empty any
none_at_first nodes sizes w z table c =
    let x : table_after enough (view_of nodes sizes) over_limit variable_count w.source w.target 0 ≡ some table = ap (table_after enough (view_of nodes sizes) over_limit variable_count w.source w.target) (sym z) ∙ c in
    let y : table ≡ opening variable_count w.source w.target = cc in
    ap has_empty y
