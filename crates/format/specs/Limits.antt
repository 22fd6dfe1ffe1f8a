-- The fixed numbers of document 01, as document 02 moved them, each named here and nowhere else.
use Rattle.std.specs.Prelude.{ℕ, ◌+◌, ◌*◌, ◌/◌}

-- "A node is one byte." The greatest byte.
abbrev pub max_byte : ℕ
max_byte = 0xff

-- 'The sheet'.
-- "A sheet is text of 1 to 16,384 bytes."
abbrev pub max_text : ℕ
max_text = 16384

-- "Each line is an even count, 2 to 326, of digits"
abbrev pub max_line_digits : ℕ
max_line_digits = 326

-- "count n (1 to 16), then n arities (0 to 4)"
abbrev pub max_symbols : ℕ
max_symbols = 16

abbrev pub max_arity : ℕ
max_arity = 4

-- "Variables are 80 to 8b" (document 02, W9)
abbrev pub variable_count : ℕ
variable_count = 12

abbrev pub first_variable : ℕ
first_variable = 0x80

-- "then 1 to 16 of 02; then 0 to 32 tasks"
abbrev pub max_equations : ℕ
max_equations = 16

abbrev pub max_tasks : ℕ
max_tasks = 32

-- Frame 01 is line 1, and the equations follow, one a line.
abbrev pub first_equation_line : ℕ
first_equation_line = 2

-- "An equation side has at most 32 nodes; the terms of one task together at most 160."
abbrev pub max_side_nodes : ℕ
max_side_nodes = 32

abbrev pub max_task_nodes : ℕ
max_task_nodes = 160

-- "step limit k (00 to ff)"
abbrev pub max_steps : ℕ
max_steps = 0xff

-- 'The walk that solves s > t'.
-- "up to 40 elements", "at most 255 lines", "At most 10,000 turns."
abbrev pub max_elements : ℕ
max_elements = 40

abbrev pub max_lines : ℕ
max_lines = 255

abbrev pub max_turns : ℕ
max_turns = 10000

-- Positions of an equation: those of two sides.
abbrev pub position_count : ℕ
position_count = 2 * max_side_nodes

-- 'Ground comparison': "verdicts for all pairs among 224 nodes (64 and 160) are 50,176 cells". The positions of an equation, then those of the subject.
-- Behind them the filling (document 02, W5): 225 nodes. A row of cells is longer than the nodes, so that rows begin at multiples of 16: 54,000 cells.
abbrev pub filling_node : ℕ
filling_node = position_count + max_task_nodes

abbrev pub node_count : ℕ
node_count = filling_node + 1

abbrev pub row_cells : ℕ
row_cells = (node_count + 15) / 16 * 16

abbrev pub cell_count : ℕ
cell_count = node_count * row_cells

-- "(ff for none)", "(ff after the last)": what stands in a record where there is no position.
abbrev pub no_position : ℕ
no_position = 0xff

-- "records are 93 bytes with 12 binding positions" (W9), "(ff for none), element count, 40 pairs of positions"
abbrev pub record_bytes : ℕ
record_bytes = variable_count + 1 + 2 * max_elements

-- 'Calls and lent memory'.
-- "the table is 23,715 bytes" (W9); "scratch of 57,344 (all but check), term of 160 and log of 765 (run)"
abbrev pub table_bytes : ℕ
table_bytes = max_lines * record_bytes

abbrev pub scratch_bytes : ℕ
scratch_bytes = 57344

abbrev pub term_bytes : ℕ
term_bytes = max_task_nodes

-- Three bytes for each step, and at most ff steps: "step limit k (00 to ff)".
abbrev pub log_bytes : ℕ
log_bytes = 3 * max_steps
