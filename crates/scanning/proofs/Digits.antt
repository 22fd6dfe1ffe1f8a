-- Lemmas for the code that reads digits and finds the end of a line.
use Rattle.std.proofs.Common.{◌≡◌, ℕ, zero, suc, ◌+◌, ◌-◌, ◌*◌, ◌%◌, ◌<◌, ◌≤◌, Bool, true, false, ◌&&◌, ◌||◌, ltb, leb, List, [], ◌∷◌, ◌++◌, length, get_or, take, drop, sym, refl, ap, ◌∙◌, subst, inl, inr, append_assoc, append-nil, add-one, arith, length-append, length-drop, take-append-drop, length-take-le, get_or-drop, drop-cons, take-suc, drop-drop, take-add, ltb-false, ltb-true, le-ltb, lt-ltb, le-leb}
use mathlib.Core.Option
use mathlib.Core.Option.{Option, none, some}
use lib.Seq.{drop-length}
use borrow.Author.Tests.{lt-leb}
use Rattle.format.specs.Limits.{max_line_digits}
use Rattle.format.specs.Theory.Lists.{every_append}
use Rattle.sheet.specs.Text.{base, LF, ended, unended, lines_of, digit, byte_of, put_first, bytes_of, frame_of}
use Rattle.std.specs.Prelude.{Some, None}
use Rattle.std.specs.Prelude.{Option as End}
use Rattle.scanning.specs.ForContracts.Digits.{digit_number, Digits, block, DigitsTo, decoded, bytes_between, LineTo, NoFrame, LineRead, CountRead}
use Rattle.sheet.specs.Theory.Text.{digit_small}
use Rattle.sheet.specs.Theory.Lines.{NoLF, content, lines_ended, Begins, lines_begin, lines_unended, frame_none_digit, frame_none_long}

-- 1. Digits.
pub digit_decimal : (c : ℕ) → 0x30 ≤ c → c ≤ 0x39 → digit c ≡ some (c - 0x30)
unfolding digit
digit_decimal c h i = go (leb 0x30 c) (leb c 0x39) (le-leb 0x30 c h) (le-leb c 0x39 i)
  where
    go : (a b : Bool) → a ≡ true → b ≡ true
        → ◌≡◌ {A = Option ℕ} (elim (a && b) [ true ↦ some (c - 0x30) | false ↦ elim (leb 0x61 c && leb c 0x66) [ true ↦ some (10 + (c - 0x61)) | false ↦ none ] ]) (some (c - 0x30))
    go true true d e = refl
    go true false d e = absurd cc
    go false b d e = absurd cc

not_decimal : (c : ℕ) → 0x39 < c → (leb 0x30 c && leb c 0x39) ≡ false
not_decimal c h = ap (leb 0x30 c &&◌) (lt-leb c 0x39 h) ∙ none_of (leb 0x30 c)
  where
    none_of : (t : Bool) → (t && false) ≡ false
    none_of true = refl
    none_of false = refl

pub digit_letter : (c : ℕ) → 0x61 ≤ c → c ≤ 0x66 → digit c ≡ some (10 + (c - 0x61))
unfolding digit
digit_letter c h i = go (leb 0x30 c && leb c 0x39) (leb 0x61 c) (leb c 0x66) (not_decimal c (omega arith)) (le-leb 0x61 c h) (le-leb c 0x66 i)
  where
    go : (a b d : Bool) → a ≡ false → b ≡ true → d ≡ true
        → ◌≡◌ {A = Option ℕ} (elim a [ true ↦ some (c - 0x30) | false ↦ elim (b && d) [ true ↦ some (10 + (c - 0x61)) | false ↦ none ] ]) (some (10 + (c - 0x61)))
    go true b d x y z = absurd cc
    go false false d x y z = absurd cc
    go false true false x y z = absurd cc
    go false true true x y z = refl

digit_other : (c : ℕ) → (leb 0x30 c && leb c 0x39) ≡ false → (leb 0x61 c && leb c 0x66) ≡ false → digit c ≡ none
unfolding digit
digit_other c h i = go (leb 0x30 c && leb c 0x39) (leb 0x61 c && leb c 0x66) h i
  where
    go : (a b : Bool) → a ≡ false → b ≡ false
        → ◌≡◌ {A = Option ℕ} (elim a [ true ↦ some (c - 0x30) | false ↦ elim b [ true ↦ some (10 + (c - 0x61)) | false ↦ none ] ]) none
    go true b x y = absurd cc
    go false true x y = absurd cc
    go false false x y = refl

not_letter : (c : ℕ) → c < 0x61 → (leb 0x61 c && leb c 0x66) ≡ false
not_letter c h = ap (◌&& leb c 0x66) (lt-leb 0x61 c h)

pub digit_low : (c : ℕ) → c < 0x30 → digit c ≡ none
digit_low c h = digit_other c (ap (◌&& leb c 0x39) (lt-leb 0x30 c h)) (not_letter c (omega arith))

pub digit_between : (c : ℕ) → 0x39 < c → c < 0x61 → digit c ≡ none
digit_between c h i = digit_other c (not_decimal c h) (not_letter c i)

pub digit_high : (c : ℕ) → 0x66 < c → digit c ≡ none
digit_high c h = digit_other c (not_decimal c (omega arith)) (ap (leb 0x61 c &&◌) (lt-leb c 0x66 h) ∙ none_of (leb 0x61 c))
  where
    none_of : (t : Bool) → (t && false) ≡ false
    none_of true = refl
    none_of false = refl

pub number_some : (c n : ℕ) → digit c ≡ some n → digit_number c ≡ n
unfolding digit_number
number_some c n e = ap (λ o. Option.get_or o base) e

pub number_none : (c : ℕ) → digit c ≡ none → digit_number c ≡ base
unfolding digit_number
number_none c e = ap (λ o. Option.get_or o base) e

pub number_most : (c : ℕ) → digit_number c ≤ base
unfolding digit_number
number_most c = go (digit c) refl
  where
    go : (o : Option ℕ) → digit c ≡ o → Option.get_or o base ≤ base
    go none e = omega arith
    go (some n) e = omega (arith, digit_small c n e)

pub number_digit : (c : ℕ) → digit_number c < base → digit c ≡ some (digit_number c)
unfolding digit_number
number_digit c h = go (digit c) refl
  where
    go : (o : Option ℕ) → digit c ≡ o → digit c ≡ some (Option.get_or o base)
    go none e = absurd (omega (arith, number_none c e))
    go (some n) e = e

pub number_other : (c : ℕ) → base ≤ digit_number c → digit c ≡ none
unfolding digit_number
number_other c h = go (digit c) refl
  where
    go : (o : Option ℕ) → digit c ≡ o → digit c ≡ none
    go none e = e
    go (some n) e = absurd (omega (arith, number_some c n e, digit_small c n e))

-- A digit is told by the two ranges.
pub decimal_told : (c : ℕ) → 0x30 ≤ c → c ≤ 0x39 → true ≡ ltb (digit_number c) base
decimal_told c h i = sym (lt-ltb (digit_number c) base (omega (arith, number_some c (c - 0x30) (digit_decimal c h i))))

pub letter_told : (c : ℕ) → 0x61 ≤ c → c ≤ 0x66 → true ≡ ltb (digit_number c) base
letter_told c h i = sym (lt-ltb (digit_number c) base (omega (arith, number_some c (10 + (c - 0x61)) (digit_letter c h i))))

pub other_told : (c : ℕ) → digit c ≡ none → false ≡ ltb (digit_number c) base
other_told c e = sym (le-ltb (digit_number c) base (omega (arith, number_none c e)))

pub digit_told : (c : ℕ) → c < 256 → (ltb ((c + 208) % 256) 10 || ltb ((c + 159) % 256) 6) ≡ ltb (digit_number c) base
digit_told c few = go (ltb ((c + 208) % 256) 10) (ltb ((c + 159) % 256) 6) refl refl
  where
    no_digit : 10 ≤ (c + 208) % 256 → 6 ≤ (c + 159) % 256 → digit c ≡ none
    no_digit h i = place (ltb c 0x30) (ltb c 0x61) refl refl
      where
        place : (x y : Bool) → ltb c 0x30 ≡ x → ltb c 0x61 ≡ y → digit c ≡ none
        place true y p q = digit_low c (ltb-true c 0x30 p)
        place false true p q = digit_between c (omega (arith, ltb-false c 0x30 p)) (ltb-true c 0x61 q)
        place false false p q = digit_high c (omega (arith, ltb-false c 0x61 q))

    go : (x y : Bool) → ltb ((c + 208) % 256) 10 ≡ x → ltb ((c + 159) % 256) 6 ≡ y → (x || y) ≡ ltb (digit_number c) base
    go true y p q = let i = ltb-true ((c + 208) % 256) 10 p in decimal_told c (omega (arith, i)) (omega (arith, i))
    go false true p q = let i = ltb-true ((c + 159) % 256) 6 q in letter_told c (omega (arith, i)) (omega (arith, i))
    go false false p q = other_told c (no_digit (ltb-false ((c + 208) % 256) 10 p) (ltb-false ((c + 159) % 256) 6 q))

-- 2. Lines, by their digits.
digit_no_LF : (c : ℕ) → digit_number c < base → c ≡ LF → ⊥
digit_no_LF c h e = omega (arith, number_none LF (digit_low LF (omega arith)), ap digit_number e)

pub digits_no_LF : (cs : List ℕ) → Digits cs → NoLF cs
digits_no_LF [] h = tt
digits_no_LF (c ∷ cs) h = (digit_no_LF c h.0, digits_no_LF cs h.1)

-- An even count of digits writes the decoded bytes.
pub digits_decoded : (n : ℕ) (cs : List ℕ) → length cs ≡ n + n → Digits cs → bytes_of cs ≡ some (decoded cs)
unfolding bytes_of decoded byte_of put_first
digits_decoded zero [] e h = refl
digits_decoded zero (c ∷ cs) e h = absurd (omega arith)
digits_decoded (suc n) [] e h = absurd (omega arith)
digits_decoded (suc n) (c ∷ []) e h = absurd (omega arith)
digits_decoded (suc n) (c ∷ d ∷ cs) e h = rw (number_digit c h.0, number_digit d h.1.0, digits_decoded n cs (omega arith) h.1.1)

bytes_odd : (n : ℕ) (cs : List ℕ) → length cs ≡ suc (n + n) → bytes_of cs ≡ none
unfolding bytes_of put_first
bytes_odd n [] e = absurd (omega arith)
bytes_odd n (c ∷ []) e = refl
bytes_odd zero (c ∷ d ∷ cs) e = absurd (omega arith)
bytes_odd (suc n) (c ∷ d ∷ cs) e = rw (bytes_odd n cs (omega arith)) (none_behind (byte_of (digit c) (digit d)))
  where
    none_behind : (x : Option ℕ) → put_first x none ≡ none
    none_behind none = refl
    none_behind (some b) = refl

frame_odd : (n : ℕ) (cs : List ℕ) → length cs ≡ suc (n + n) → frame_of (ended cs) ≡ none
unfolding frame_of
frame_odd n cs e = go (leb 2 (length cs) && leb (length cs) max_line_digits)
  where
    go : (t : Bool) → ◌≡◌ {A = Option (List ℕ)} (elim t [ true ↦ bytes_of cs | false ↦ none ]) none
    go true = bytes_odd n cs e
    go false = refl

frame_even : (n : ℕ) (cs : List ℕ) → length cs ≡ suc n + suc n → length cs ≤ max_line_digits → Digits cs → frame_of (ended cs) ≡ some (decoded cs)
unfolding frame_of
frame_even n cs e l h = go (leb 2 (length cs)) (leb (length cs) max_line_digits) (le-leb 2 (length cs) (omega arith)) (le-leb (length cs) max_line_digits l)
  where
    go : (s t : Bool) → s ≡ true → t ≡ true → ◌≡◌ {A = Option (List ℕ)} (elim (s && t) [ true ↦ bytes_of cs | false ↦ none ]) (some (decoded cs))
    go true true d e' = digits_decoded (suc n) cs e h
    go true false d e' = absurd cc
    go false t d e' = absurd cc

-- 3. The line from `at` whose first characters, up to `i`, are digits.
module _ (s : List ℕ) (at i : ℕ) (below : at ≤ i) (inside : i ≤ length s) (few : i - at ≤ max_line_digits) where
  part : List ℕ
  part = take (i - at) (drop at s)

  length_part : length part ≡ i - at
  unfolding part
  length_part = length-take-le (i - at) (drop at s) (omega (arith, length-drop at s))

  split_part : drop at s ≡ part ++ drop i s
  unfolding part
  split_part =
      let e : at + (i - at) ≡ i = omega arith in
      sym (take-append-drop (i - at) (drop at s)) ∙ ap (take (i - at) (drop at s) ++◌) (drop-drop (i - at) at s ∙ ap (λ n. drop n s) e)

  split_next : i < length s → drop at s ≡ part ++ get_or s i 0 ∷ drop (i + 1) s
  split_next h = split_part ∙ ap (part ++◌) (drop-cons s i 0 h ∙ ap (λ n. get_or s i 0 ∷ drop n s) (sym (add-one i)))

  module _ (ds : Digits (take (i - at) (drop at s))) where
    no_LF : NoLF part
    unfolding part
    no_LF = digits_no_LF part ds

    -- LF ends the line.
    is_line : i < length s → get_or s i 0 ≡ LF → lines_of (drop at s) ≡ ended part ∷ lines_of (drop (i + 1) s)
    is_line h e = ap lines_of (split_next h ∙ ap (λ c. part ++ c ∷ drop (i + 1) s) e) ∙ lines_ended part (drop (i + 1) s) no_LF

    pub line_to : i < length s → get_or s i 0 ≡ LF → (n : ℕ) → i ≡ at + 2 * suc n → LineTo s at i
    unfolding part bytes_between
    line_to h e n d = record {
      pairs = n;
      even = d;
      inside = h;
      is_first = is_line h e;
      is_frame = frame_even n part (omega (arith, length_part)) (omega (arith, length_part)) ds;
    }

    pub line_odd : i < length s → get_or s i 0 ≡ LF → (n : ℕ) → i ≡ at + suc (2 * n) → NoFrame s at
    line_odd h e n d = record { line = ended part; more = lines_of (drop (i + 1) s); is_first = is_line h e; no_frame = frame_odd n part (omega (arith, length_part)) }

    pub line_empty : i < length s → get_or s i 0 ≡ LF → i ≡ at → NoFrame s at
    unfolding frame_of
    line_empty h e d = record { line = ended part; more = lines_of (drop (i + 1) s); is_first = is_line h e; no_frame = rw (no_part part (omega (arith, length_part))) }
      where
        no_part : (xs : List ℕ) → length xs ≡ 0 → xs ≡ []
        no_part [] e = refl
        no_part (x ∷ xs) e = absurd (omega arith)

    -- Any other character, or a digit too many.
    begins : i < length s → (get_or s i 0 ≡ LF → ⊥) → Begins (part ++ (get_or s i 0 ∷ [])) (drop at s)
    begins h n = go part no_LF (split_next h)
      where
        go : (xs : List ℕ) → NoLF xs → drop at s ≡ xs ++ get_or s i 0 ∷ drop (i + 1) s → Begins (xs ++ (get_or s i 0 ∷ [])) (drop at s)
        go [] f e = subst (Begins (get_or s i 0 ∷ [])) (sym e) (lines_begin (get_or s i 0) [] (drop (i + 1) s) (n, tt))
        go (x ∷ xs) f e =
            subst (Begins (x ∷ xs ++ (get_or s i 0 ∷ []))) (sym (e ∙ sym (append_assoc (x ∷ xs) (get_or s i 0 ∷ []) (drop (i + 1) s))))
            (lines_begin x (xs ++ (get_or s i 0 ∷ [])) (drop (i + 1) s) (f.0, every_append (λ b. b ≡ LF → ⊥) xs (get_or s i 0 ∷ []) f.1 (n, tt)))

    pub line_other : i < length s → (get_or s i 0 ≡ LF → ⊥) → base ≤ digit_number (get_or s i 0) → NoFrame s at
    line_other h n d =
        let b = begins h n in
        record { line = b.line; more = b.rest; is_first = b.split; no_frame = frame_none_digit b.line part (get_or s i 0) b.more (b.starts ∙ append_assoc part (get_or s i 0 ∷ []) b.more) (number_other (get_or s i 0) d) }

    pub line_long : i < length s → (get_or s i 0 ≡ LF → ⊥) → i - at ≡ max_line_digits → NoFrame s at
    line_long h n d =
        let b = begins h n in
        let l : length (content b.line) ≡ length ((part ++ (get_or s i 0 ∷ [])) ++ b.more) = ap length b.starts in
        record { line = b.line; more = b.rest; is_first = b.split; no_frame = frame_none_long b.line (omega (arith, l, length-append (part ++ (get_or s i 0 ∷ [])) b.more, length-append part (get_or s i 0 ∷ []), length_part)) }

    -- The text ends.
    pub line_unended : i ≡ length s → at < i → NoFrame s at
    unfolding frame_of
    line_unended e l = go part no_LF (split_part ∙ ap (part ++◌) (ap (λ n. drop n s) e ∙ drop-length s) ∙ append-nil part) length_part
      where
        go : (xs : List ℕ) → NoLF xs → drop at s ≡ xs → length xs ≡ i - at → NoFrame s at
        go [] f d n = absurd (omega arith)
        go (x ∷ xs) f d n = record { line = unended (x ∷ xs); more = []; is_first = ap lines_of d ∙ lines_unended x xs f; no_frame = refl }

-- 4. The search for a line's end: what is passed are digits, and not too many.
pub digits_to_start : (s : List ℕ) (at : ℕ) → at < length s → DigitsTo s at at
digits_to_start s at h = let e : at - at ≡ 0 = omega arith in record { begun = omega arith; inside = omega arith; few = omega arith; digits = rw e tt }

pub digits_to_next : (s : List ℕ) (at i : ℕ) → DigitsTo s at i → i < length s → digit_number (get_or s i 0) < base → (i - at ≡ max_line_digits → ⊥)
    → DigitsTo s at (i + 1)
digits_to_next s at i p h d n =
    let e : i + 1 - at ≡ suc (i - at) = omega (arith, p.begun) in
    let same : get_or (drop at s) (i - at) 0 ≡ get_or s i 0 = get_or-drop at s (i - at) 0 ∙ ap (λ j. get_or s j 0) (omega (arith, p.begun)) in
    let more : take (i + 1 - at) (drop at s) ≡ take (i - at) (drop at s) ++ (get_or s i 0 ∷ []) =
    ap (λ m. take m (drop at s)) e ∙ take-suc (drop at s) (i - at) 0 (omega (arith, length-drop at s, p.begun)) ∙ ap (λ x. take (i - at) (drop at s) ++ (x ∷ [])) same in
    record {
      begun = omega (arith, p.begun);
      inside = omega arith;
      few = at_most (i - at) (i + 1 - at) p.few n e;
      digits = rw more (every_append (λ c. digit_number c < base) (take (i - at) (drop at s)) (get_or s i 0 ∷ []) p.digits (d, tt));
    }
  where
    at_most : (m k : ℕ) → m ≤ max_line_digits → (m ≡ max_line_digits → ⊥) → k ≡ suc m → k ≤ max_line_digits
    at_most m k l n e = omega arith

pub digits_to_block : (s : List ℕ) (at i : ℕ) → DigitsTo s at i → i + block ≤ length s → i + block - at ≤ max_line_digits → Digits (take block (drop i s))
    → DigitsTo s at (i + block)
digits_to_block s at i p h l d =
    let e : i + block - at ≡ i - at + block = omega (arith, p.begun) in
    let j : at + (i - at) ≡ i = omega (arith, p.begun) in
    let behind : drop (i - at) (drop at s) ≡ drop i s = drop-drop (i - at) at s ∙ ap (λ n. drop n s) j in
    let more : take (i + block - at) (drop at s) ≡ take (i - at) (drop at s) ++ take block (drop i s) =
    ap (λ m. take m (drop at s)) e ∙ take-add (i - at) block (drop at s) ∙ ap (λ x. take (i - at) (drop at s) ++ take block x) behind in
    record {
      begun = omega (arith, p.begun);
      inside = h;
      few = l;
      digits = rw more (every_append (λ c. digit_number c < base) (take (i - at) (drop at s)) (take block (drop i s)) p.digits d);
    }

pub digits_to_ended : (s : List ℕ) (at i : ℕ) → DigitsTo s at i → i < length s → get_or s i 0 ≡ LF → (r : End ℕ) → CountRead at i r → LineRead s at r
digits_to_ended s at i p h e (Some j) x = rw x.0 (line_to s at i p.begun p.inside p.few p.digits h e x.1 x.2)
digits_to_ended s at i p h e None (inl x) = line_empty s at i p.begun p.inside p.few p.digits h e x
digits_to_ended s at i p h e None (inr x) = line_odd s at i p.begun p.inside p.few p.digits h e x.0 x.1

pub digits_to_other : (s : List ℕ) (at i : ℕ) → DigitsTo s at i → i < length s → (get_or s i 0 ≡ LF → ⊥) → base ≤ digit_number (get_or s i 0) → NoFrame s at
digits_to_other s at i p = line_other s at i p.begun p.inside p.few p.digits

pub digits_to_long : (s : List ℕ) (at i : ℕ) → DigitsTo s at i → i < length s → (get_or s i 0 ≡ LF → ⊥) → i - at ≡ max_line_digits → NoFrame s at
digits_to_long s at i p = line_long s at i p.begun p.inside p.few p.digits

-- A digit is no line's end.
pub digit_no_end : (c : ℕ) → digit_number c < base → c ≡ LF → ⊥
unfolding digit_number
digit_no_end c h e = let d : digit_number LF < base = subst (λ c. digit_number c < base) e h in omega arith

pub digits_to_unended : (s : List ℕ) (at i : ℕ) → DigitsTo s at i → length s ≤ i → at < length s → NoFrame s at
digits_to_unended s at i p h l =
    let e : i ≡ length s = omega (arith, p.inside) in
    line_unended s at i p.begun p.inside p.few p.digits e (omega arith)
