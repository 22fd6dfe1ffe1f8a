-- The laws of bindings as bytes.
use Rattle.std.specs.Prelude.{ℕ, zero, suc, ◌≤◌, ◌<◌, ◌≡◌, refl, List, [], ◌∷◌, length, get_or, set}
use Rattle.std.proofs.Common.{sym, ap, ◌∙◌, lt-ltb, le-ltb, arith}
use Rattle.std.proofs.Math.Option.{none, some}
use Rattle.std.proofs.lemmas.List.{length-map}
use Rattle.std.proofs.Math.Decide.{dec_lt}
use Rattle.format.specs.Limits.{variable_count, no_position, max_byte}
use Rattle.solving.specs.Line.{lookup, bind}
use Rattle.bindings.specs.ForContracts.Bindings.{binding_of, bindings_of, Readable}
use Rattle.bindings.specs.Theory.PrefixForm.{get_or_any}

pub bound_byte : (b : ℕ) → b < no_position → binding_of b ≡ some b
unfolding binding_of
bound_byte b h = rw (lt-ltb b no_position h, binding_of)

pub free_byte : (b : ℕ) → no_position ≤ b → binding_of b ≡ none
unfolding binding_of
free_byte b h = rw (le-ltb b no_position h, binding_of)

pub lookup_byte : (bs : List ℕ) (v : ℕ) → lookup (bindings_of bs) v ≡ binding_of (get_or bs v no_position)
unfolding bindings_of binding_of
lookup_byte [] v = refl
lookup_byte (b ∷ bs) zero = refl
lookup_byte (b ∷ bs) (suc v) = lookup_byte bs v

-- The same, of the byte that is read there.
pub bound_there : (bs : List ℕ) (v : ℕ) → v < length bs → get_or bs v 0 < no_position → lookup (bindings_of bs) v ≡ some (get_or bs v 0)
bound_there bs v l h = lookup_byte bs v ∙ (ap binding_of (get_or_any bs v no_position 0 l) ∙ bound_byte (get_or bs v 0) h)

pub free_there : (bs : List ℕ) (v : ℕ) → v < length bs → get_or bs v 0 ≡ no_position → lookup (bindings_of bs) v ≡ none
free_there bs v l h = lookup_byte bs v ∙ (ap binding_of (get_or_any bs v no_position 0 l) ∙ free_byte (get_or bs v 0) (omega arith))

pub bind_byte : (bs : List ℕ) (v p : ℕ) → p < no_position → bindings_of (set bs v p) ≡ bind (bindings_of bs) v p
unfolding bindings_of
bind_byte [] v p h = refl
bind_byte (b ∷ bs) zero p h = ap (◌∷ bindings_of bs) (bound_byte p h)
bind_byte (b ∷ bs) (suc v) p h = ap (binding_of b ∷◌) (bind_byte bs v p h)

pub length_bindings : (bs : List ℕ) → length (bindings_of bs) ≡ length bs
unfolding bindings_of
length_bindings bs = length-map bs binding_of

-- A byte that is not ff is less.
pub not_unbound : {q b : ℕ} → q ≡ b → q ≤ max_byte → (b ≡ no_position → ⊥) → q < no_position
not_unbound {q} {b} e l n = go (dec_lt q no_position)
  where
    go : Dec (q < no_position) → q < no_position
    go (yes h) = h
    go (no h) = let x : b ≡ no_position = omega arith in absurd (n x)

-- A byte for each variable.
pub readable_slots : {nodes sizes bs : List ℕ} → Readable nodes sizes bs → length bs ≡ variable_count
readable_slots {bs = bs} r = sym (length_bindings bs) ∙ r.proper.slots
