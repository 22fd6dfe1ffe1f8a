-- Laws of digits that write bytes, and for the loop that decodes them into a lent buffer.
use Prim.Native.Nat.{ℕ, suc, ◌+◌, ◌≤◌, ◌<◌}
use mathlib.Core.Path.{◌≡◌, refl, sym, ap, ◌∙◌}
use mathlib.Core.List.{List, [], ◌∷◌, ◌++◌, append_assoc, append-nil}
use lib.ListN.{length, drop, set, get_or, length-append, length-drop}
use lib.Seq.{drop-cons, set_at}
use native.Mathlib.Numerals.{add-one}
use native.Mathlib.Omega.{arith}
use Rattle.format.specs.Buffer.{written}
use Rattle.scanning.specs.ForContracts.Digits.{BodyReady, pair_at, bytes_between}
use Rattle.reading.specs.ForContracts.Seek.{Spans, Decoded}
use Rattle.format.specs.Limits.{max_byte}
use Rattle.scanning.specs.Theory.Between.{between_end, two_more, first_byte, byte_small, body_behind}

-- 1. The first of the bytes written, and those behind it.
module _ (text : List ℕ) (from end b : ℕ) (bs : List ℕ) (h : Spans text from end (b ∷ bs)) where
  some_digits : from ≡ end → ⊥
  some_digits d =
      let x : [] ≡ b ∷ bs = sym (between_end text from end (omega arith)) ∙ h.writes in
      cc

  pub spans_inside : from + 2 ≤ length text
  spans_inside = omega (arith, two_more text from end h.ready some_digits, h.ready.inside)

  split : pair_at text from ∷ bytes_between text (from + 2) end ≡ b ∷ bs
  split = sym (first_byte text from end h.ready some_digits) ∙ h.writes

  pub spans_byte : pair_at text from ≤ max_byte
  spans_byte = byte_small text from end h.ready some_digits

  pub spans_first : pair_at text from ≡ b
  spans_first = let e = split in cc

  pub spans_behind : Spans text (from + 2) end bs
  spans_behind = let e = split in record { ready = body_behind text from end h.ready some_digits; writes = cc }

-- 2. The loop: the bytes passed stand first in the buffer.
pub record Decoding (text : List ℕ) (from end : ℕ) (before after : List ℕ) (at n : ℕ) : Type 0 where
  pub done : List ℕ
  pub ready : BodyReady text at end
  pub split : bytes_between text from end ≡ done ++ bytes_between text at end
  pub counted : n ≡ length done
  pub stands : after ≡ done ++ drop n before
  pub room : length (bytes_between text from end) ≤ length before

pub decoding_start : (text : List ℕ) (from end : ℕ) (before : List ℕ) → (bs : List ℕ) × Spans text from end bs × (length bs ≤ length before)
    → Decoding text from end before before from 0
decoding_start text from end before h = record {
  done = [];
  ready = h.1.ready;
  split = refl;
  counted = refl;
  stands = refl;
  room = omega (arith, ap length h.1.writes, h.2);
}

module _ (text : List ℕ) (from end : ℕ) (before after : List ℕ) (at n : ℕ) (g : Decoding text from end before after at n) where
  pub decoding_length : length after ≡ length before
  decoding_length =
      omega (arith, ap length g.stands, length-append g.done (drop n before), length-drop n before, ap length g.split, length-append g.done (bytes_between text at end), g.counted, g.room)

  pub decoding_done : end ≤ at → (bs : List ℕ) → Spans text from end bs → Decoded bs before after n
  unfolding written
  decoding_done h bs x =
      let e : bs ≡ g.done = sym x.writes ∙ g.split ∙ ap (g.done ++◌) (between_end text at end h) ∙ append-nil g.done in
      (g.counted ∙ ap length (sym e), g.stands ∙ ap (λ m. g.done ++ drop m before) g.counted ∙ ap (λ ds. ds ++ drop (length ds) before) (sym e))

  module _ (inside : at < end) where
    more : at ≡ end → ⊥
    more e = omega arith

    next : bytes_between text at end ≡ pair_at text at ∷ bytes_between text (at + 2) end
    next = first_byte text at end g.ready more

    pub decoding_inside : at + 2 ≤ length text
    decoding_inside = omega (arith, two_more text at end g.ready more, g.ready.inside)

    pub decoding_byte : pair_at text at ≤ max_byte
    decoding_byte = byte_small text at end g.ready more

    below : n < length before
    below = omega (arith, ap length g.split, length-append g.done (bytes_between text at end), ap length next, g.counted, g.room)

    pub decoding_place : n < length after
    decoding_place = omega (arith, decoding_length, below)

    pub decoding_next : {b : ℕ} → b ≡ pair_at text at → Decoding text from end before (set after n b) (at + 2) (n + 1)
    decoding_next {b} e = record {
      done = g.done ++ (b ∷ []);
      ready = body_behind text at end g.ready more;
      split =
          g.split
          ∙ ap (g.done ++◌) (next ∙ ap (◌∷ bytes_between text (at + 2) end) (sym e))
          ∙ sym (append_assoc g.done (b ∷ []) (bytes_between text (at + 2) end));
      counted = omega (arith, length-append g.done (b ∷ []), g.counted);
      stands =
          ap (λ l. set l n b) (g.stands ∙ ap (g.done ++◌) (drop-cons before n 0 below))
          ∙ set_at g.done (get_or before n 0) (drop (suc n) before) b n (sym g.counted)
          ∙ sym (append_assoc g.done (b ∷ []) (drop (suc n) before))
          ∙ ap (λ m. (g.done ++ (b ∷ [])) ++ drop m before) (sym (add-one n));
      room = g.room;
    }
