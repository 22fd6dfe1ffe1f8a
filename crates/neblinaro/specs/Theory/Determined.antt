-- The bytes of records determine the lines.
use Rattle.std.specs.Prelude.{ℕ, ◌*◌, ◌≡◌, refl, List, [], ◌∷◌, ◌++◌, map, length}
use Rattle.std.proofs.Common.{sym, ap, ◌∙◌, append_assoc, length-append, arith}
use Rattle.std.proofs.Math.Option.{none, some}
use Rattle.std.proofs.lemmas.List.{length-map}
use Rattle.format.specs.Limits.{no_position}
use Rattle.solving.specs.Line.{Bindings, Element, equal, greater, Line, line, binding_byte, element_bytes, record_of, records}
use Rattle.line_bytes.specs.ForContracts.Resting.{padding}
use Rattle.solving.specs.Theory.Records.{length_record_of, length_element_bytes}
use Rattle.neblinaro.specs.Demands.{BoundToPositions, BetweenPositions, Recorded}

-- Two lists that are equal, taken apart at the same place.
first_same : (a b c d : List ℕ) → length a ≡ length b → a ++ c ≡ b ++ d → a ≡ b
first_same [] [] c d l e = refl
first_same [] (y ∷ b) c d l e = absurd (omega arith)
first_same (x ∷ a) [] c d l e = absurd (omega arith)
first_same (x ∷ a) (y ∷ b) c d l e =
    let h : x ≡ y = cc in
    let t : a ++ c ≡ b ++ d = cc in
    let r : a ≡ b = first_same a b c d (omega arith) t in
    cc

rest_same : (a b c d : List ℕ) → length a ≡ length b → a ++ c ≡ b ++ d → c ≡ d
rest_same [] [] c d l e = e
rest_same [] (y ∷ b) c d l e = absurd (omega arith)
rest_same (x ∷ a) [] c d l e = absurd (omega arith)
rest_same (x ∷ a) (y ∷ b) c d l e = let t : a ++ c ≡ b ++ d = cc in rest_same a b c d (omega arith) t

bindings_same : (θ η : Bindings) → BoundToPositions θ → BoundToPositions η → map binding_byte θ ≡ map binding_byte η → θ ≡ η
unfolding binding_byte
bindings_same [] [] h k e = refl
bindings_same [] (o ∷ η) h k e = let z : ◌≡◌ {A = ℕ} 0 1 = cc in absurd (omega arith)
bindings_same (o ∷ θ) [] h k e = let z : ◌≡◌ {A = ℕ} 0 1 = cc in absurd (omega arith)
bindings_same (none ∷ θ) (none ∷ η) h k e = let t : map binding_byte θ ≡ map binding_byte η = cc in ap (none ∷◌) (bindings_same θ η h k t)
bindings_same (none ∷ θ) (some q ∷ η) h k e = let x : no_position ≡ q = cc in absurd (omega (arith, k.0))
bindings_same (some p ∷ θ) (none ∷ η) h k e = let x : p ≡ no_position = cc in absurd (omega (arith, h.0))
bindings_same (some p ∷ θ) (some q ∷ η) h k e =
    let x : p ≡ q = cc in
    let t : map binding_byte θ ≡ map binding_byte η = cc in
    let r = bindings_same θ η h.1 k.1 t in
    cc

elements_same : (es fs : List Element) → BetweenPositions es → BetweenPositions fs → element_bytes es ≡ element_bytes fs → es ≡ fs
unfolding element_bytes
elements_same [] [] h k e = refl
elements_same [] (equal p q ∷ fs) h k e = absurd k
elements_same [] (greater p q ∷ fs) h k e = let z : ◌≡◌ {A = ℕ} 0 1 = cc in absurd (omega arith)
elements_same (equal p q ∷ es) fs h k e = absurd h
elements_same (greater p q ∷ es) [] h k e = let z : ◌≡◌ {A = ℕ} 0 1 = cc in absurd (omega arith)
elements_same (greater p q ∷ es) (equal r s ∷ fs) h k e = absurd k
elements_same (greater p q ∷ es) (greater r s ∷ fs) h k e =
    let x : p ≡ r = cc in
    let y : q ≡ s = cc in
    let t : element_bytes es ≡ element_bytes fs = cc in
    let u = elements_same es fs h.2 k.2 t in
    cc

record_parts : (θ : Bindings) (es : List Element) → record_of (line θ es) ≡ map binding_byte θ ++ (length es ∷ (element_bytes es ++ padding (length es)))
unfolding record_of padding
record_parts θ es = append_assoc (map binding_byte θ) (length es ∷ element_bytes es) (padding (length es))

record_same : (θ η : Bindings) (es fs : List Element) → Recorded (line θ es ∷ []) → Recorded (line η fs ∷ []) → record_of (line θ es) ≡ record_of (line η fs) → line θ es ≡ line η fs
record_same θ η es fs h k e =
    let (a, b, c, d, u) = h in
    let (i, j, l, m, v) = k in
    let n : length (map binding_byte θ) ≡ length (map binding_byte η) = length-map θ binding_byte ∙ a ∙ sym (length-map η binding_byte ∙ i) in
    let f = sym (record_parts θ es) ∙ e ∙ record_parts η fs in
    let x : θ ≡ η = bindings_same θ η b j (first_same (map binding_byte θ) (map binding_byte η) _ _ n f) in
    let y = rest_same (map binding_byte θ) (map binding_byte η) _ _ n f in
    let z : length es ≡ length fs = cc in
    let w : element_bytes es ++ padding (length es) ≡ element_bytes fs ++ padding (length fs) = cc in
    let o : length (element_bytes es) ≡ length (element_bytes fs) = length_element_bytes es ∙ ap (2 *◌) z ∙ sym (length_element_bytes fs) in
    let r : es ≡ fs = elements_same es fs d m (first_same (element_bytes es) (element_bytes fs) _ _ o w) in
    cc

pub records_determine : (ls ks : List Line) → Recorded ls → Recorded ks → records ls ≡ records ks → ls ≡ ks
unfolding records
records_determine [] [] h k e = refl
records_determine [] (line η fs ∷ ks) h k e = let l = ap length e ∙ length-append (record_of (line η fs)) (records ks) in absurd (omega (arith, l, length_record_of η fs k.0 k.2))
records_determine (line θ es ∷ ls) [] h k e = let l = ap length (sym e) ∙ length-append (record_of (line θ es)) (records ls) in absurd (omega (arith, l, length_record_of θ es h.0 h.2))
records_determine (line θ es ∷ ls) (line η fs ∷ ks) h k e =
    let (a, b, c, d, u) = h in
    let (i, j, l, m, v) = k in
    let n : length (record_of (line θ es)) ≡ length (record_of (line η fs)) = length_record_of θ es a c ∙ sym (length_record_of η fs i l) in
    let x = record_same θ η es fs (a, b, c, d, tt) (i, j, l, m, tt) (first_same (record_of (line θ es)) (record_of (line η fs)) _ _ n e) in
    let y = records_determine ls ks u v (rest_same (record_of (line θ es)) (record_of (line η fs)) _ _ n e) in
    cc
