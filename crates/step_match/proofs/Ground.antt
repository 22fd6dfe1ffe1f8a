-- Ground terms of the subject: where their bytes and sizes stand, and that terms with the same bytes are identical.
use Prim.Native.Nat.{ℕ, ◌+◌, ◌-◌}
use mathlib.Core.Path.{◌≡◌, sym, ap, ◌∙◌}
use mathlib.Core.Bool.{Bool, true, false}
use mathlib.Core.Logic.{◌↔◌}
use mathlib.Core.List.{List}
use native.Mathlib.Omega.{arith}
use lib.ListN.{get_or, take, drop}
use lib.Seq.{take_at}
use lib.Pointwise.{pointwise}
use Rattle.std.specs.Prelude.{nat_eq}
use Rattle.std.proofs.lemmas.Bool.Decides.{Decides-eqb}
use Rattle.std.proofs.lemmas.Slice.Eq.{slice_eq-Decides}
use Rattle.terms.specs.Term.{Term, size}
use Rattle.terms.specs.Prefix.{prefix}
use Rattle.terms.specs.ForContracts.Stored.{GroundStored}
use Rattle.terms.specs.Theory.Prefix.{ground_fits, length_prefix, prefix_injective}
use Rattle.terms.specs.Theory.Stored.{Standing, ground_size, ground_standing}
use Rattle.step_match.specs.ForContracts.Matching.{HasGround}

pub standing : {nodes sizes : List ℕ} {i : ℕ} → HasGround nodes sizes i → Standing nodes sizes i
standing g = ground_standing g.stored

term_bytes : {nodes sizes arities : List ℕ} {i n : ℕ} {t : Term} → GroundStored nodes sizes arities i t → n ≡ size t → take (i + n - i) (drop i nodes) ≡ prefix t
term_bytes {i = i} {n = n} {t = t} g d =
    let e : i + n - i ≡ n = omega arith in
    rw (e, g.stored.bytes.is) (take_at (prefix t) g.stored.bytes.rest n (length_prefix t ∙ sym d))

module _ {nodes stored_sizes arities : List ℕ} {a b : ℕ} {s t : Term} (g : GroundStored nodes stored_sizes arities a s) (h : GroundStored nodes stored_sizes arities b t) where
  -- Where the sizes are the same, the terms are if their bytes are.
  pub same_told : {n : ℕ} {r : Bool} → n ≡ size s → n ≡ size t → r ≡ pointwise nat_eq (take (a + n - a) (drop a nodes)) (take (b + n - b) (drop b nodes)) → (r ≡ true) ↔ (s ≡ t)
  same_told {n} {r} d e q =
      let x = term_bytes g d in
      let y = term_bytes h e in
      let told = slice_eq-Decides Decides-eqb (take (a + n - a) (drop a nodes)) (take (b + n - b) (drop b nodes)) r q in (
        λ z. prefix_injective arities g.few_symbols s t (ground_fits arities s g.is_ground) (ground_fits arities t h.is_ground) (sym x ∙ (told.0 z ∙ y)),
        λ z. told.1 (x ∙ (ap prefix z ∙ sym y)),
      )

  pub other_sizes : (get_or stored_sizes a 0 ≡ get_or stored_sizes b 0 → ⊥) → (false ≡ true) ↔ (s ≡ t)
  other_sizes n = (λ e. let z : ◌≡◌ {A = ℕ} 0 1 = cc in absurd (omega arith), λ e. absurd (n (ground_size g ∙ (ap size e ∙ sym (ground_size h)))))
