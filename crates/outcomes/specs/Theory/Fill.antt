-- A buffer whose first bytes are filled: what stands in the filled part does not matter.
use Rattle.std.specs.Prelude.{ℕ, ◌≤◌, ◌≡◌, List, ◌++◌, drop, replicate}
use Rattle.std.proofs.Common.{sym, ap, ◌∙◌, arith}
use Rattle.std.proofs.lemmas.List.{length-replicate}
use Rattle.format.specs.Buffer.{written}
use Rattle.format.specs.Limits.{no_position, table_bytes, scratch_bytes}
use Rattle.format.specs.Theory.Behind.{behind_more}
use Rattle.outcomes.specs.Buffer.{filled, cleared, blanked}

pub filled_is : (n b : ℕ) (buffer : List ℕ) → filled n b buffer ≡ replicate n b ++ drop n buffer
unfolding filled written
filled_is n b buffer = ap (λ k. replicate n b ++ drop k buffer) (length-replicate n b)

-- What stands in the part that is filled does not matter.
pub filled_behind : (n k b : ℕ) (xs ys : List ℕ) → k ≤ n → drop k xs ≡ drop k ys → filled n b xs ≡ filled n b ys
filled_behind n k b xs ys h e = filled_is n b xs ∙ ap (replicate n b ++◌) (behind_more n k xs ys h e) ∙ sym (filled_is n b ys)

-- So what stands behind what was used is enough.
pub cleared_behind : (k : ℕ) (scratch worked last : List ℕ) → k ≤ scratch_bytes → drop k worked ≡ drop k scratch → last ≡ filled scratch_bytes 0 worked → last ≡ cleared scratch
unfolding cleared
cleared_behind k scratch worked last l h e = e ∙ filled_behind scratch_bytes k 0 worked scratch l h

pub blanked_behind : (table worked last : List ℕ) → drop table_bytes worked ≡ drop table_bytes table → last ≡ filled table_bytes no_position worked → last ≡ blanked table
unfolding blanked
blanked_behind table worked last h e = e ∙ filled_behind table_bytes table_bytes no_position worked table (omega arith) h
