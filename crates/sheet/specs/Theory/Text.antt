-- The bytes of a frame are bytes.
use Rattle.std.specs.Prelude.{ℕ, ◌+◌, ◌*◌, ◌-◌, ◌≤◌, ◌<◌, ◌≡◌, refl, Bool, true, false, ◌&&◌, List, [], ◌∷◌, length, leb}
use Rattle.std.proofs.Math.Option.{Option, none, some}
use Rattle.std.proofs.Common.{leb-true, arith}
use Rattle.format.specs.Limits.{max_line_digits, max_byte}
use Rattle.sheet.specs.ForContracts.Bytes.{Bytes}
use Rattle.sheet.specs.Text.{base, TextLine, ended, unended, digit, byte_of, put_first, bytes_of, frame_of}

pub digit_small : (c n : ℕ) → digit c ≡ some n → n < base
unfolding digit
digit_small c n e = go (leb 0x30 c) (leb c 0x39) (leb 0x61 c) (leb c 0x66) refl refl refl refl e
  where
    go : (a b x y : Bool) → leb 0x30 c ≡ a → leb c 0x39 ≡ b → leb 0x61 c ≡ x → leb c 0x66 ≡ y
        → ◌≡◌ {A = Option ℕ} (elim (a && b) [ true ↦ some (c - 0x30) | false ↦ elim (x && y) [ true ↦ some (10 + (c - 0x61)) | false ↦ none ] ]) (some n) → n < base
    go true true x y h i j k e = let z : c - 0x30 ≡ n = cc in omega (arith, leb-true c 0x39 i)
    go true false true true h i j k e = let z : 10 + (c - 0x61) ≡ n = cc in omega (arith, leb-true c 0x66 k)
    go true false true false h i j k e = let z : ◌≡◌ {A = ℕ} 0 1 = cc in absurd (omega arith)
    go true false false y h i j k e = let z : ◌≡◌ {A = ℕ} 0 1 = cc in absurd (omega arith)
    go false b true true h i j k e = let z : 10 + (c - 0x61) ≡ n = cc in omega (arith, leb-true c 0x66 k)
    go false b true false h i j k e = let z : ◌≡◌ {A = ℕ} 0 1 = cc in absurd (omega arith)
    go false b false y h i j k e = let z : ◌≡◌ {A = ℕ} 0 1 = cc in absurd (omega arith)

byte_small : (c d b : ℕ) → byte_of (digit c) (digit d) ≡ some b → b ≤ max_byte
unfolding byte_of
byte_small c d b e = go (digit c) (digit d) refl refl e
  where
    go : (x y : Option ℕ) → digit c ≡ x → digit d ≡ y → byte_of x y ≡ some b → b ≤ max_byte
    go none y h i e = let z : ◌≡◌ {A = ℕ} 0 1 = cc in absurd (omega arith)
    go (some m) none h i e = let z : ◌≡◌ {A = ℕ} 0 1 = cc in absurd (omega arith)
    go (some m) (some n) h i e = let z : base * m + n ≡ b = cc in omega (arith, digit_small c m h, digit_small d n i)

bytes_small : (cs bs : List ℕ) → bytes_of cs ≡ some bs → Bytes bs
unfolding bytes_of put_first
bytes_small [] bs e = let z : [] ≡ bs = cc in rw (← z) tt
bytes_small (c ∷ []) bs e = let z : ◌≡◌ {A = ℕ} 0 1 = cc in absurd (omega arith)
bytes_small (c ∷ d ∷ cs) bs e = go (bytes_small cs) (byte_of (digit c) (digit d)) (bytes_of cs) refl refl e
  where
    go : ((bs : List ℕ) → bytes_of cs ≡ some bs → Bytes bs) → (x : Option ℕ) (y : Option (List ℕ)) → byte_of (digit c) (digit d) ≡ x → bytes_of cs ≡ y
        → put_first x y ≡ some bs → Bytes bs
    go ih none y h i e = let z : ◌≡◌ {A = ℕ} 0 1 = cc in absurd (omega arith)
    go ih (some b) none h i e = let z : ◌≡◌ {A = ℕ} 0 1 = cc in absurd (omega arith)
    go ih (some b) (some more) h i e = let z : b ∷ more ≡ bs = cc in rw (← z) (byte_small c d b h, ih more i)

pub frame_bytes_small : (line : TextLine) (bs : List ℕ) → frame_of line ≡ some bs → Bytes bs
unfolding frame_of
frame_bytes_small (ended cs) bs e = go (leb 2 (length cs) && leb (length cs) max_line_digits) e
  where
    go : (t : Bool) → ◌≡◌ {A = Option (List ℕ)} (elim t [ true ↦ bytes_of cs | false ↦ none ]) (some bs) → Bytes bs
    go true e = bytes_small cs bs e
    go false e = let z : ◌≡◌ {A = ℕ} 0 1 = cc in absurd (omega arith)
frame_bytes_small (unended cs) bs e = let z : ◌≡◌ {A = ℕ} 0 1 = cc in absurd (omega arith)
