-- `load_row` meets its contract: the array between has the row at its front.
use Prim.Native.Nat.{ℕ, ◌≤◌}
use mathlib.Core.Path.{◌≡◌, ap, ◌∙◌}
use mathlib.Core.List.{List}
use lib.ListN.{length, take, drop}
use lib.Seq.{length-take-le, take_at}
use Rattle.format.specs.Limits.{position_count}
use Rattle.format.specs.Buffer.{written}
use Rattle.step_try.proofs.applies.load_row.Goals as goal

taken : (n : ℕ) (from before : List ℕ) → n ≤ length from → take n (written (take n from) before) ≡ take n from
unfolding written
taken n from before h = take_at (take n from) (drop (length (take n from)) before) n (length-take-le n from h)

pub returns : goal.returns
returns c =
    let from = c.args.from.now in
    c.copy_front-2.ensures ∙ ap (λ row. written row c.args.to.now) (ap (take position_count) c.copy_front.ensures ∙ taken position_count from _ c.requires.0)
