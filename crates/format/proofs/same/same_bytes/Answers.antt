-- `same_bytes` meets its contract: two parts of a list are equal exactly if their bytes are the same, one by one.
use Rattle.std.proofs.Common.{ℕ, ◌+◌, ◌<◌, ◌≤◌, ◌≡◌, ◌↔◌, List, length, get_or, sym, ap, ◌∙◌, subst, arith}
use Rattle.std.specs.List.{between}
use Rattle.std.proofs.lemmas.List.{same_lists, get_or_default}
use Rattle.std.proofs.lemmas.Bool.Decides.{Decides-eqb}
use Rattle.std.proofs.lemmas.List.Edits.{get_or-between, length-between}
use Rattle.std.proofs.lemmas.Slice.Eq.{slice_eq-Decides}
use Rattle.format.specs.Lists.{SameBytes}
use Rattle.format.proofs.same.same_bytes.Goals as goal

module _ (bytes : List ℕ) (a b n : ℕ) where
  each_same : between a (a + n) bytes ≡ between b (b + n) bytes → SameBytes bytes a b n
  each_same e = record {
    each = λ k l.
        sym (get_or-between bytes a (a + n) k 0 (omega arith))
        ∙ (ap (λ part. get_or part k 0) e ∙ get_or-between bytes b (b + n) k 0 (omega arith));
  }

module _ (bytes : List ℕ) (a b n : ℕ) (ha : a + n ≤ length bytes) (hb : b + n ≤ length bytes) where
  part_length : (at : ℕ) → at + n ≤ length bytes → length (between at (at + n) bytes) ≡ n
  part_length at h = length-between bytes at (at + n) h ∙ omega arith

  same_parts : SameBytes bytes a b n → between a (a + n) bytes ≡ between b (b + n) bytes
  same_parts same = same_lists
      (between a (a + n) bytes)
      (between b (b + n) bytes)
      (part_length a ha ∙ sym (part_length b hb))
      (λ k d l. let h : k < n = subst (k <◌) (part_length a ha) l in one k d h)
    where
      one : (k d : ℕ) → k < n → get_or (between a (a + n) bytes) k d ≡ get_or (between b (b + n) bytes) k d
      one k d h =
          get_or-between bytes a (a + n) k d (omega arith)
          ∙ (get_or_default bytes (a + k) d 0 (omega arith)
          ∙ (same.each k h
          ∙ (get_or_default bytes (b + k) 0 d (omega arith) ∙ sym (get_or-between bytes b (b + n) k d (omega arith)))))

pub returns : goal.returns
returns c =
    let bytes = c.args.bytes.now in
    let decides = slice_eq-Decides Decides-eqb _ _ _ c.eq.ensures in (
      λ e. each_same bytes c.args.a c.args.b c.args.n (decides.0 e),
      λ same. decides.1 (same_parts bytes c.args.a c.args.b c.args.n c.requires.0 c.requires.1 same),
    )
