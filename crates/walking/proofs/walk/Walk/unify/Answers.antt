-- `unify` meets its contract: failure deletes the line, success the element, and other bindings are put back.
use mathlib.Core.Path.{refl, ◌∙◌}
use Rattle.walking.proofs.Treating.{removal_fits, equal_within, line_readable, unify_failed, unify_kept, unify_changed}
use Rattle.walking.proofs.walk.Walk.unify.Goals as goal
use Rattle.walking.proofs.walk.Walk.unify.Goals.{then-changed, else-changed}

pub unify_positions-unifier-requires : goal.unify_positions-unifier-requires
unify_positions-unifier-requires c = record { readable = (line_readable c.requires.0 c.requires.1 _ refl, c.requires.2); p_in_bounds = equal_within c.requires.0 c.requires.1 _ refl }

pub returns-in_default : goal.returns-in_default
returns-in_default c =
    rw c.turned.ensures (unify_failed c.requires.0 c.requires.1 _ refl c.unify_positions-unifier.result c.unify_positions-unifier.ensures c.in_default.is)

pub put_without-requires : goal.put_without-requires
put_without-requires c =
    removal_fits c.requires.0

pub returns : goal.returns
returns c =
    rw c.turned-2.ensures (elim c.if-changed.branch [
      | then-changed w ↦ unify_changed c.requires.0 c.requires.1 _ refl c.unify_positions-unifier.result c.unify_positions-unifier.ensures c.in-Some.is _ _ c.put_without.ensures (w.memory-is ∙ w.rebind.ensures)
      | else-changed w ↦ unify_kept c.requires.0 c.requires.1 _ refl c.unify_positions-unifier.result c.unify_positions-unifier.ensures c.in-Some.is _ (c.differ-changed.ensures.same w.if-changed.false) (rw w.memory-is c.put_without.ensures)
    ])
