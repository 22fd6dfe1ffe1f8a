-- Unification in a copy of a line's bindings.
use Prim.Native.Nat.{ℕ, ◌<◌}
use mathlib.Core.Path.{◌≡◌, subst}
use mathlib.Core.List.{List}
use lib.ListN.{length}
use Rattle.format.specs.Limits.{variable_count}
use Rattle.solving.specs.Walk.{enough}
use Rattle.std.specs.Prelude.{⊤}
use Rattle.std.specs.Prelude.{Option as Answer}
use Rattle.bindings.specs.ForContracts.Bindings.{bindings_of, Readable}
use Rattle.unifying.specs.ForContracts.Unify.{UnifiesTo}
use Rattle.unifying.specs.ForContracts.Unifier.{Unifies}
use Rattle.unifying.specs.Theory.Unify.{told_enough}

pub copy_unified : (nodes sizes bindings own after : List ℕ) (p q : ℕ) (a : Answer ⊤) → Readable nodes sizes bindings → p < length nodes → q < length nodes → own ≡ bindings
    → UnifiesTo nodes sizes enough.unify_depth (bindings_of own) p q a (bindings_of after) → length after ≡ variable_count
    → Unifies nodes sizes bindings p q (record { answer = a; bindings = after })
copy_unified nodes sizes bindings own after p q a r i j e d l = record {
  tells = told_enough (bindings_of after) r p q i j a (subst (λ bs. UnifiesTo nodes sizes enough.unify_depth (bindings_of bs) p q a (bindings_of after)) e d);
  whole = l;
}
