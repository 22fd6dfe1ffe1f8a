-- Laws of the kinds of frames: a byte is that of its kind, or of none.
use Rattle.std.specs.Prelude.{ℕ, ◌≡◌, refl, Bool, true, false, ◌⊎◌, List, [], ◌∷◌, eqb}
use Rattle.std.proofs.Common.{ap, subst, ◌∙◌, inl, inr, eqb-true, ne_eqb}
use Rattle.format.specs.Kind.{FrameKind, symbols_kind, equation_kind, run_kind, judgement_kind, comparison_kind, unknown_kind, kind_byte, kind_among, kinds, kind_of}
use Rattle.format.specs.Lists.{Every}

among_told : (ks : List FrameKind) (b : ℕ) → (b ≡ kind_byte (kind_among ks b)) ⊎ (kind_among ks b ≡ unknown_kind)
unfolding kind_among
among_told [] b = inr refl
among_told (k ∷ ks) b = go (among_told ks b) (eqb b (kind_byte k)) refl
  where
    go : (b ≡ kind_byte (kind_among ks b)) ⊎ (kind_among ks b ≡ unknown_kind) → (t : Bool) → eqb b (kind_byte k) ≡ t
        → (b ≡ kind_byte (elim t as (λ t. FrameKind) [ true ↦ k | false ↦ kind_among ks b ])) ⊎ (elim t as (λ t. FrameKind) [ true ↦ k | false ↦ kind_among ks b ] ≡ unknown_kind)
    go ih true e = inl (eqb-true b (kind_byte k) e)
    go ih false e = ih

-- A byte of a kind that is not unknown is the kind's byte.
pub byte_of_kind : (b : ℕ) (k : FrameKind) → kind_of b ≡ k → (k ≡ unknown_kind → ⊥) → b ≡ kind_byte k
unfolding kind_of
byte_of_kind b k e n = go (among_told kinds b)
  where
    go : (b ≡ kind_byte (kind_among kinds b)) ⊎ (kind_among kinds b ≡ unknown_kind) → b ≡ kind_byte k
    go (inl h) = h ∙ ap kind_byte e
    go (inr h) = absurd (n (subst (λ x. x ≡ unknown_kind) e h))

among_none : (ks : List FrameKind) (b : ℕ) → Every (λ k. b ≡ kind_byte k → ⊥) ks → kind_among ks b ≡ unknown_kind
unfolding kind_among
among_none [] b h = refl
among_none (k ∷ ks) b h = rw (ne_eqb b (kind_byte k) h.0, kind_among) (among_none ks b h.1)

pub no_kind : (b : ℕ) → Every (λ k. b ≡ kind_byte k → ⊥) kinds → kind_of b ≡ unknown_kind
unfolding kind_of
no_kind b h = among_none kinds b h

-- The kind of a kind's byte.
pub kind_of_byte : (k : FrameKind) → kind_of (kind_byte k) ≡ k
unfolding kind_of kind_among
kind_of_byte symbols_kind = refl
kind_of_byte equation_kind = refl
kind_of_byte run_kind = refl
kind_of_byte judgement_kind = refl
kind_of_byte comparison_kind = refl
kind_of_byte unknown_kind = refl
