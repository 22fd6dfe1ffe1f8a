-- Texts and listings at the edges of document 01, checked against the definitions by computation.
use Rattle.std.specs.Prelude.{ℕ, zero, suc, ◌+◌, ◌*◌, ◌≡◌, refl, List, [], ◌∷◌, ◌++◌, map}
use Prim.Native.String.{String, ◌++◌ as ◌then◌}
use Rattle.outcomes.specs.Outcome.{check_call}
use Rattle.cases.specs.Cases.{Case, lists}
use Rattle.cases.specs.Checked.{ascii, computed, stated}

-- `n` copies of a text.
unfoldable pub times : ℕ → String → String
times zero s = ""
times (suc n) s = s then times n s

-- A text, and the number and line of the refusal that check gives it; 0 and 0 where it is accepted.
pub data Text : Type 0 where
  text : String → (number line : ℕ) → Text

unfoldable pub text_checked : Text → ℕ
unfolding check_call ascii
text_checked (text s n l) = check_call (ascii s)

unfoldable pub text_stated : Text → ℕ
text_stated (text s n l) = n + 256 * l

-- P1's symbols a, b and product; the equation xy = yx.
abbrev abp_frame : String
abp_frame = "0103000002\n"

abbrev xy : String
xy = "02028081028180\n"

-- A constant a and a unary symbol h; the equation x = x. A tower of h over what follows it.
abbrev ah : String
ah = "01020001\n"

abbrev xx : String
xx = "028080\n"

abbrev tower : ℕ → String
tower n = times n "01"

unfoldable pub texts : List Text
unfolding times
texts =
    -- "1, empty or too long (line 0)."
    text "" 1 0
    ∷ text (times 16385 "\n") 1 0
    ∷ text (times 16384 "\n") 2 1
    -- "2, a line not of the stated digits or without LF."
    ∷ text "\n" 2 1
    ∷ text "0103000002" 2 1
    ∷ text (abp_frame then "028081") 2 2
    ∷ text "0103000002\r\n" 2 1
    ∷ text (abp_frame then "02808A\n") 2 2
    ∷ text (abp_frame then "02808\n") 2 2
    ∷ text (abp_frame then "0\n") 2 2
    ∷ text (abp_frame then " 028081\n") 2 2
    ∷ text (abp_frame then "0280/0\n") 2 2
    ∷ text (abp_frame then "0280:0\n") 2 2
    ∷ text (abp_frame then "0280`0\n") 2 2
    ∷ text (abp_frame then "0280g0\n") 2 2
    ∷ text (abp_frame then "\n028081\n") 2 2
    ∷ text (abp_frame then "028081\n\n") 2 3
    -- "an even count, 2 to 326": 326 digits, the values of a judgement having 160 nodes; 328 digits.
    ∷ text (ah then xx then "040000" then tower 159 then "00\n") 0 0
    ∷ text (ah then xx then "040000" then tower 160 then "00\n") 2 3
    -- "3, unknown kind, order or number of frames broken (a missing 02 names the last line)."
    ∷ text "00\n" 3 1
    ∷ text "06\n" 3 1
    ∷ text xy 3 1
    ∷ text "0500" 2 1
    ∷ text "0500\n" 3 1
    ∷ text abp_frame 3 1
    ∷ text (abp_frame then abp_frame) 3 2
    ∷ text (abp_frame then xy then abp_frame) 3 3
    ∷ text (abp_frame then xy then "06\n") 3 3
    ∷ text (abp_frame then "030000\n") 3 2
    ∷ text (abp_frame then "030000\n" then xy) 3 2
    ∷ text (abp_frame then "04\n") 3 2
    ∷ text (abp_frame then xy then "050000\n" then xy) 3 4
    ∷ text (abp_frame then times 16 xy) 0 0
    ∷ text (abp_frame then times 17 xy) 3 18
    ∷ text (abp_frame then xy then times 32 "050000\n") 0 0
    ∷ text (abp_frame then xy then times 33 "050000\n") 3 35
    ∷ text (abp_frame then xy then times 32 "030000\n" then "05ff\n") 3 35
    -- "4, bad symbol frame."
    ∷ text "01\n" 4 1
    ∷ text "0100\n" 4 1
    ∷ text "0101\n" 4 1
    ∷ text "010101\n" 4 1
    ∷ text "01010000\n" 4 1
    ∷ text "01020005\n" 4 1
    ∷ text ("01020004\n" then xx) 0 0
    ∷ text ("0110" then times 16 "00" then "\n" then xx) 0 0
    ∷ text ("0111" then times 17 "00" then "\n" then xx) 4 1
    -- "5, foreign byte, unknown symbol, frame ending early, bytes left over, too many nodes."
    ∷ text (abp_frame then "02\n") 5 2
    ∷ text (abp_frame then "0280\n") 5 2
    ∷ text (abp_frame then "02800200\n") 5 2
    ∷ text (abp_frame then "02808180\n") 5 2
    ∷ text (abp_frame then "028010\n") 5 2
    ∷ text (abp_frame then "02807f\n") 5 2
    ∷ text (abp_frame then "028b8c\n") 5 2
    ∷ text (abp_frame then "028788\n") 0 0
    ∷ text (abp_frame then "028b80\n") 0 0
    ∷ text (abp_frame then "028003\n") 5 2
    ∷ text (abp_frame then xy then "03\n") 5 3
    ∷ text (abp_frame then xy then "0305\n") 5 3
    ∷ text (abp_frame then xy then "03ff00\n") 0 0
    ∷ text (abp_frame then xy then "03050000\n") 5 3
    ∷ text (abp_frame then xy then "0500\n") 5 3
    ∷ text (abp_frame then xy then "05000000\n") 5 3
    -- "A side of 32 nodes passes, 33 is 5."
    ∷ text (ah then "02" then tower 31 then "00" then tower 31 then "80\n") 0 0
    ∷ text (ah then "02" then tower 32 then "0080\n") 5 2
    ∷ text (ah then "0280" then tower 32 then "00\n") 5 2
    -- "the terms of one task together at most 160"
    ∷ text (ah then xx then "0300" then tower 159 then "00\n") 0 0
    ∷ text (ah then xx then "0300" then tower 160 then "00\n") 5 3
    ∷ text (ah then xx then "05" then tower 79 then "00" then tower 79 then "00\n") 0 0
    ∷ text (ah then xx then "05" then tower 79 then "00" then tower 80 then "00\n") 5 3
    -- "6, variable in a ground term"; "the first of 5 and 6 by byte (5 where one byte earns both)".
    ∷ text (abp_frame then xy then "030580\n") 6 3
    ∷ text (abp_frame then xy then "030502ff80\n") 5 3
    ∷ text (abp_frame then xy then "03050280ff\n") 6 3
    ∷ text (abp_frame then xy then "030280\n") 6 3
    ∷ text (abp_frame then xy then "03050280\n") 6 3
    ∷ text (abp_frame then xy then "03050080\n") 5 3
    ∷ text (abp_frame then xy then "050080\n") 6 3
    ∷ text (abp_frame then xy then "05000080\n") 5 3
    ∷ text (abp_frame then xy then "0400000080\n") 6 3
    ∷ text (ah then xx then "0300" then tower 159 then "80\n") 6 3
    ∷ text (ah then xx then "0300" then tower 160 then "80\n") 5 3
    -- "7, judgement of an absent equation or direction"; "a 04 frame too short for equation and direction is 5 before 7".
    ∷ text (abp_frame then xy then "04\n") 5 3
    ∷ text (abp_frame then xy then "04ff\n") 5 3
    ∷ text (abp_frame then xy then "0401000001\n") 7 3
    ∷ text (abp_frame then xy then "0400020001\n") 7 3
    ∷ text (abp_frame then xy then "0401ff\n") 7 3
    ∷ text (abp_frame then xy then "040100ff80\n") 7 3
    ∷ text (abp_frame then xy then "040000ff80\n") 5 3
    ∷ text (abp_frame then xy then "040000\n") 5 3
    -- "ground values for variables 80 up to the highest of that equation, one each; none if it has no variable"
    ∷ text (abp_frame then "020001\n040000\n") 0 0
    ∷ text (abp_frame then "020001\n04000000\n") 5 3
    ∷ text (abp_frame then "028383\n04000100010001\n") 0 0
    ∷ text (abp_frame then "028383\n040001000100\n") 5 3
    ∷ text (abp_frame then "028383\n0400010001000100\n") 5 3
    -- "then line by line": 2 on line 3 comes after 5 on line 2.
    ∷ text (abp_frame then "02\n0g\n") 5 2
    ∷ []

pub texts_hold : map text_checked texts ≡ map text_stated texts
unfolding text_checked text_stated texts
texts_hold = refl

-- P1's equation solved: the first frames of each listing over it.
abbrev xy_tables : List String
xy_tables = "110000010008" ∷ "1200018081" ∷ "110001010008" ∷ "1200018180" ∷ []

-- "With d above product and d(x) = xx": a, product and d; and with a unary u between them. A product of `n` + 1 factors a.
abbrev dxx : List String
dxx = "0103000201" ∷ "020280018080" ∷ []

abbrev udxx : List String
udxx = "010400020101" ∷ "020380018080" ∷ []

abbrev dxx_tables : List String
dxx_tables = "110000010005" ∷ "120000" ∷ "110001000005" ∷ []

unfoldable pub factors : ℕ → String
unfolding times
factors n = times n "0100" then "00"

unfoldable pub listings : List Case
unfolding times factors
listings =
    -- "P1's run with k = 00: ending 01, 0 steps."
    lists ("0103000002" ∷ "02028081028180" ∷ "0300020100" ∷ []) (xy_tables ++ "130100020100" ∷ "1f0000" ∷ [])
    -- "none found, ending 00" comes before "k steps done, ending 01".
    ∷ lists ("0103000002" ∷ "02028081028180" ∷ "0300020001" ∷ []) (xy_tables ++ "130000020001" ∷ "1f0000" ∷ [])
    ∷ lists ("0103000002" ∷ "02028081028180" ∷ "0301020100" ∷ []) (xy_tables ++ "14000000" ∷ "130001020001" ∷ "1f0001" ∷ [])
    -- "d of an argument of 79 nodes steps to 159 nodes"
    ∷ lists (dxx ++ ("030102" then factors 39) ∷ []) (dxx_tables ++ "14000000" ∷ ("13000101" then factors 39 then factors 39) ∷ "1f0001" ∷ [])
    -- "of an argument of 159, ending 02"; "k steps done" comes first.
    ∷ lists (dxx ++ ("03ff02" then factors 79) ∷ []) (dxx_tables ++ ("13020002" then factors 79) ∷ "1f0000" ∷ [])
    ∷ lists (dxx ++ ("030002" then factors 79) ∷ []) (dxx_tables ++ ("13010002" then factors 79) ∷ "1f0000" ∷ [])
    -- "result above 160 nodes": the whole term, of 160 nodes and of 161.
    ∷ lists (udxx ++ ("03010203" then factors 39) ∷ []) (dxx_tables ++ "14000001" ∷ ("1300010201" then factors 39 then factors 39) ∷ "1f0001" ∷ [])
    ∷ lists (udxx ++ ("0301020203" then factors 39) ∷ []) (dxx_tables ++ ("130200020203" then factors 39) ∷ "1f0000" ∷ [])
    -- "Ending 02 keeps the term before it": two steps, then 199 nodes. Each position is that in the term before the step.
    ∷ lists (dxx ++ ("03ff0202" then factors 24) ∷ []) (
    dxx_tables ++ "14000000" ∷ "14000001" ∷ ("13020201" then "01" then factors 24 then factors 24 then "02" then factors 24) ∷ "1f0002" ∷ []
    )
    -- "positions of the subject ascending, equations ascending": c = b and h(x) = x on h(c).
    ∷ lists ("010400000001" ∷ "020201" ∷ "02038080" ∷ "03ff0302" ∷ []) (
    "110000010001" ∷ "120000" ∷ "110001000001" ∷ "110100010001" ∷ "120000" ∷ "110101000001" ∷ "14010000" ∷ "14000000" ∷ "13000201" ∷ "1f0002" ∷ []
    )
    -- "a repeated variable meets identical terms", "first holding line": xx = a on b(bb), and at x = b and x = a. Direction 01, a > xx, has no line.
    ∷ lists ("0103000002" ∷ "0202808000" ∷ "03ff0201020101" ∷ "04000001" ∷ "04000000" ∷ "04000100" ∷ []) (
    "110000050003"
    ∷ "1200018000"
    ∷ "1201800000"
    ∷ "1200018000"
    ∷ "1201800000"
    ∷ "120000"
    ∷ "110001000001"
    ∷ "14000002"
    ∷ "130001020100"
    ∷ "150101"
    ∷ "150102"
    ∷ "150000"
    ∷ "1f0001"
    ∷ []
    )
    -- A source that is a variable matches everywhere: x = a. Direction 01, a > x, does not hold at W5's filling of x, which is a.
    ∷ lists ("0103000002" ∷ "028000" ∷ "03ff020101" ∷ []) ("110000010000" ∷ "1200018000" ∷ "110001010000" ∷ "1200010080" ∷ "14000000" ∷ "13000100" ∷ "1f0001" ∷ [])
    -- "Every direction is usable" (document 02, W5): in each direction of xy = xz the source lacks a variable of the target. z is a, the lowest constant, and bb
    -- steps to ba by the last line, y > z.
    ∷ lists ("0103000002" ∷ "02028081028082" ∷ "03ff020101" ∷ []) (
    "110000030006"
    ∷ "12000181028082"
    ∷ "12018102808200"
    ∷ "1200018182"
    ∷ "110001030006"
    ∷ "12000182028081"
    ∷ "12018202808100"
    ∷ "1200018281"
    ∷ "14000000"
    ∷ "130001020100"
    ∷ "1f0001"
    ∷ []
    )
    -- The lowest constant is 01 where 00 has an argument: h(x) = y on 02, which exceeds h(01) (direction 01, x filled), which exceeds 01 (direction 00,
    -- y filled).
    ∷ lists ("0103010000" ∷ "02008081" ∷ "03ff02" ∷ []) ("110000010000" ∷ "120001008081" ∷ "110001010000" ∷ "120001810080" ∷ "14000100" ∷ "14000000" ∷ "13000201" ∷ "1f0002" ∷ [])
    -- An equation whose only variable is 83: the fourth value is the one that counts.
    ∷ lists ("0103000002" ∷ "0202838300" ∷ "04000000000001" ∷ []) (
    "110000050003"
    ∷ "1200018300"
    ∷ "1201830000"
    ∷ "1200018300"
    ∷ "1201830000"
    ∷ "120000"
    ∷ "110001000001"
    ∷ "150101"
    ∷ "1f0000"
    ∷ []
    )
    -- "Refused (8 to 10 included): only 'ff', number, line in two bytes."
    ∷ lists [] ("ff010000" ∷ [])
    ∷ lists ("0103000002" ∷ "02028081028180" ∷ "04ff" ∷ []) ("ff050003" ∷ [])
    ∷ []

pub listings_hold : map computed listings ≡ map stated listings
unfolding computed stated listings
listings_hold = refl
