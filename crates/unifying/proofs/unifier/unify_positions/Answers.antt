-- Goals of `unify_positions`.
use Rattle.std.proofs.Common.{sym, ap, ◌∙◌, length}
use Rattle.unifying.proofs.Copied.{copy_unified}
use Rattle.bindings.specs.Theory.Bindings.{readable_slots}
use Rattle.unifying.specs.Theory.Links.{linked_start}
use Rattle.unifying.proofs.unifier.unify_positions.Goals as goal

pub copy_from_slice-requires : goal.copy_from_slice-requires
copy_from_slice-requires c = sym (readable_slots c.requires.readable.0)

pub unify_terms-answer-requires : goal.unify_terms-answer-requires
unify_terms-answer-requires c =
    record { readable = rw c.copy_from_slice.ensures.after c.requires.readable; p_in_bounds = c.requires.p_in_bounds; linked = linked_start _ _ _ }

pub returns : goal.returns
returns c =
    copy_unified _ _ _ _ c.unify_terms-answer.new.bindings _ _ _ c.requires.readable.0 c.requires.p_in_bounds.0 c.requires.p_in_bounds.1 c.copy_from_slice.ensures.after c.unify_terms-answer.ensures.unifies_to (c.unify_terms-answer.auto.bindings ∙ (ap length c.copy_from_slice.ensures.after ∙ readable_slots c.requires.readable.0))
