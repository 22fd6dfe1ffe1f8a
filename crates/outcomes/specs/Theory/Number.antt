-- Laws of the number that a call returns: its lowest byte tells the refusal.
use Rattle.std.specs.Prelude.{ℕ, ◌^◌, ◌≤◌, ◌<◌, ◌≡◌}
use Rattle.std.proofs.Common.{arith}
use Rattle.format.specs.Refusal.{number}
use Rattle.format.specs.declared.refusal.Refusal.{Refusal}
use Rattle.format.specs.declared.refusal.Refusal.TheVariants.{TextLength as text_length, Digits as digits, FrameOrder as frame_order, SymbolFrame as symbol_frame, FrameBytes as frame_bytes, NotGround as not_ground, AbsentDirection as absent_direction, TooManyTurns as too_many_turns, TooManyElements as too_many_elements, TooManyLines as too_many_lines, ShortBuffer as short_buffer, AbsentArgument as absent_argument}
use Rattle.outcomes.specs.Buffer.{field_limit, fields, first_field, refusal_number, refusal_byte}

pub number_range : (r : Refusal) → (1 ≤ number r) × (number r ≤ 12)
number_range text_length = omega arith
number_range digits = omega arith
number_range frame_order = omega arith
number_range symbol_frame = omega arith
number_range frame_bytes = omega arith
number_range not_ground = omega arith
number_range absent_direction = omega arith
number_range too_many_turns = omega arith
number_range too_many_elements = omega arith
number_range too_many_lines = omega arith
number_range short_buffer = omega arith
number_range absent_argument = omega arith

pub fields_byte : (a b c : ℕ) → refusal_byte (fields a b c) ≡ 0
unfolding refusal_byte fields
fields_byte a b c = omega arith

pub refused_byte : (r : Refusal) (line : ℕ) → refusal_byte (refusal_number r line) ≡ number r
unfolding refusal_byte refusal_number fields
refused_byte r line = omega (arith, number_range r)

pub refused_not_zero : (r : Refusal) (line : ℕ) → refusal_byte (refusal_number r line) ≡ 0 → ⊥
refused_not_zero r line e = omega (arith, refused_byte r line, number_range r)

pub first_field_of : (a b c : ℕ) → a < field_limit → first_field (fields a b c) ≡ a
unfolding first_field fields
first_field_of a b c h = omega arith

-- Fields that are 16-bit numbers make one 64-bit number.
pub fields_fit : (a b c : ℕ) → a < field_limit → b < field_limit → c < field_limit → fields a b c < 2 ^ 64
unfolding fields
fields_fit a b c h i j = omega arith

pub refusal_fits : (r : Refusal) (line : ℕ) → line < field_limit → refusal_number r line < 2 ^ 64
unfolding refusal_number fields
refusal_fits r line h = omega (arith, number_range r)
