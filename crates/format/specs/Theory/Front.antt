-- The laws of bytes that are copied to the front of others.
use Rattle.std.specs.Prelude.{ℕ, suc, ◌+◌, ◌≤◌, ◌<◌, ◌≡◌, refl, List, ◌++◌, length, get_or, set, take, drop}
use Rattle.std.proofs.Common.{sym, ap, ap₂, subst, ◌∙◌, append-nil, length-append, length-drop, drop_of_length-le, length-take-le, take_all, take-suc, drop-cons, get_or-take, add-one, arith}
use Rattle.std.proofs.Math.Seq.{append_snoc}
use Rattle.std.proofs.lemmas.List.{set_at}
use Rattle.format.specs.Buffer.{written}

-- Of `n` bytes the first `i` are copied.
pub record Fronting (n : ℕ) (part before after : List ℕ) (i : ℕ) : Type 0 where
  pub within : i ≤ n
  pub whole : length part ≡ n
  pub room : n ≤ length before
  pub copied : after ≡ take i part ++ drop i before

pub fronting_start : (n : ℕ) (part before : List ℕ) → length part ≡ n → n ≤ length before → Fronting n part before before 0
fronting_start n part before w h = record { within = omega arith; whole = w; room = h; copied = refl }

module _ {n : ℕ} {part before after : List ℕ} {i : ℕ} (f : Fronting n part before after i) where
  pub fronting_length : length after ≡ length before
  fronting_length =
      let w = f.within in
      let a = length-take-le i part (omega (arith, f.whole)) in
      ap length f.copied ∙ omega (arith, length-append (take i part) (drop i before), length-drop i before, f.room)

  pub fronting_next : i < n → Fronting n part before (set after i (get_or part i 0)) (i + 1)
  fronting_next h =
      let w = f.whole in
      let r = f.room in
      let x = get_or part i 0 in
      let behind = drop (suc i) before in
      let a = length-take-le i part (omega arith) in
      let j = add-one i in
      record {
        within = omega arith;
        whole = w;
        room = r;
        copied =
            ap (λ l. set l i x) (f.copied ∙ ap (take i part ++◌) (drop-cons before i 0 (omega arith)))
            ∙ (set_at (take i part) (get_or before i 0) behind x i a
            ∙ (sym (append_snoc (take i part) x behind)
            ∙ (ap (◌++ behind) (sym (take-suc part i 0 (omega arith)))
            ∙ ap (λ k. take k part ++ drop k before) (sym j))));
      }

  pub fronting_done : n ≤ i → after ≡ part ++ drop n before
  fronting_done h =
      let w = f.whole in
      let e : i ≡ n = omega (arith, f.within) in
      f.copied ∙ ap₂ ◌++◌ (take_all i part (omega arith)) (ap (λ k. drop k before) e)

  pub fronting_whole : n ≤ i → length before ≡ n → after ≡ part
  fronting_whole h e = fronting_done h ∙ (ap (part ++◌) (drop_of_length-le before {i = n} (omega arith)) ∙ append-nil part)

-- They are the first `n` of `from`.
pub front_next : (n i : ℕ) (from before after : List ℕ) → Fronting n (take n from) before after i → i < n → Fronting n (take n from) before (set after i (get_or from i 0)) (i + 1)
front_next n i from before after f h = subst (λ x. Fronting n (take n from) before (set after i x) (i + 1)) (get_or-take n from i 0 h) (fronting_next f h)

pub front_done : (n i : ℕ) (from before after : List ℕ) → Fronting n (take n from) before after i → n ≤ i → after ≡ written (take n from) before
unfolding written
front_done n i from before after f h = fronting_done f h ∙ ap (λ k. take n from ++ drop k before) (sym f.whole)
