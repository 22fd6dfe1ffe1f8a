-- The refusals (document 01, 'Who can cause a refusal') and their numbers.
use Rattle.std.specs.Prelude.{ℕ}
pub use Rattle.format.specs.declared.refusal.Refusal.{Refusal}
pub use Rattle.format.specs.declared.refusal.Refusal.TheVariants.{TextLength as text_length, Digits as digits, FrameOrder as frame_order, SymbolFrame as symbol_frame, FrameBytes as frame_bytes, NotGround as not_ground, AbsentDirection as absent_direction, TooManyTurns as too_many_turns, TooManyElements as too_many_elements, TooManyLines as too_many_lines, ShortBuffer as short_buffer, AbsentArgument as absent_argument}

abbrev pub number : Refusal → ℕ
-- "1, empty or too long"
number text_length = 1
-- "2, a line not of the stated digits or without LF"
number digits = 2
-- "3, unknown kind, order or number of frames broken"
number frame_order = 3
-- "4, bad symbol frame"
number symbol_frame = 4
-- "5, foreign byte, unknown symbol, frame ending early, bytes left over, too many nodes"
number frame_bytes = 5
-- "6, variable in a ground term"
number not_ground = 6
-- "7, judgement of an absent equation or direction"
number absent_direction = 7
-- "8, a turn beyond 10,000"
number too_many_turns = 8
-- "9, a line beyond 40 elements"
number too_many_elements = 9
-- "10, a table beyond 255 lines after a turn, finished ones counted"
number too_many_lines = 10
-- "11, a lent buffer is too short"
number short_buffer = 11
-- "12, no such equation, direction or task, or the task is of another kind"
number absent_argument = 12

-- A refusal, or what was asked for.
pub data Result (A : Type 0) : Type 0 where
  refuse : Refusal → Result A
  give : A → Result A

unfoldable pub result_map : {A B : Type 0} → (A → B) → Result A → Result B
result_map f (refuse r) = refuse r
result_map f (give a) = give (f a)
