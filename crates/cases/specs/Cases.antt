-- The cases P1 to P12 of document 01 ('The program' and 'Cases at the edges'), in the digits of its frames; frame 16 has the clause too (document 02, W8).
-- The paper gives the verdicts; the clauses of P2 to P5 and P12 are worked out by hand from L1 to L3.
use Rattle.std.specs.Prelude.{List, [], ◌∷◌}
use Prim.Native.String.{String}

pub data Case : Type 0 where
  -- A sheet and its whole listing, a frame a line.
  lists : (sheet listing : List String) → Case
  -- Two ground terms over symbols of these arities, and the frame 16 of their comparison.
  compares : (arities s t : String) → (frame : String) → Case
  -- The two sides of an equation over symbols of these arities, and the frames 11 and 12 of direction 00.
  solves : (arities left right : String) → (table : List String) → Case

-- P1's symbols: a, b and product.
abbrev abp : String
abp = "000002"

-- "(002, example 2; a above product)": product and a.
abbrev pa : String
pa = "0200"

-- "with + > product > a > b > c": c, b, a, product and +.
abbrev cbaps : String
cbaps = "0000000202"

-- Document 02, W8: "P1's comparison prints 160203."
P1 : Case
P1 =
    lists
    ("0103000002" ∷ "02028081028180" ∷ "0305020100" ∷ "0400000001" ∷ "05020100020001" ∷ [])
    ("110000010008" ∷ "1200018081" ∷ "110001010008" ∷ "1200018180" ∷ "14000000" ∷ "130001020001" ∷ "150000" ∷ "160203" ∷ "1f0001" ∷ [])

unfoldable pub cases : List Case
unfolding P1
cases =
    P1
    -- P2 a against a, 01. P3 b against a, 02, by L2. P4 ab against b, 02, by L1. P5 ab against ba, 00, by L3.
    ∷ compares abp "00" "00" "160100"
    ∷ compares abp "01" "00" "160202"
    ∷ compares abp "020001" "01" "160201"
    ∷ compares abp "020001" "020100" "160003"
    -- P6 solve x > xa: no line, 1 turn.
    ∷ solves abp "80" "028000" ("110000000001" ∷ [])
    -- P7 xa > x: one empty line, 1 turn.
    ∷ solves abp "028000" "80" ("110000010001" ∷ "120000" ∷ [])
    -- P8 a > a: no line, 1 turn.
    ∷ solves abp "00" "00" ("110000000001" ∷ [])
    -- P9 b > a: one empty line, 1 turn.
    ∷ solves abp "01" "00" ("110000010001" ∷ "120000" ∷ [])
    -- P10 x > y: that line, 0 turns.
    ∷ solves abp "80" "81" ("110000010000" ∷ "1200018081" ∷ [])
    -- P11 xy > ya: x > ya; x←ya; x > y, x > a; x←a, x > y; x > y, y > a; y←a, x > y; x←y, y > a; 7 lines, 8 turns.
    ∷ solves pa "008081" "008101" (
    "110000070008"
    ∷ "12000180008101"
    ∷ "12018000810100"
    ∷ "12000280818001"
    ∷ "12018001018081"
    ∷ "12000280818101"
    ∷ "12018101018081"
    ∷ "12018081018101"
    ∷ []
    )
    -- P12 a+(bc) against a(b+c), 02, by L2.
    ∷ compares cbaps "0402030100" "0302040100" "160202"
    ∷ []
