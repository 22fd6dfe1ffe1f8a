-- The most bytes that a frame takes when it is printed: two digits for each of its bytes, and LF.
use Rattle.std.specs.Prelude.{ℕ, ◌+◌, ◌*◌}
use Rattle.format.specs.Limits.{variable_count, max_side_nodes, max_task_nodes, max_steps, max_elements}

abbrev pub frame_room : ℕ → ℕ
frame_room n = 2 * n + 1

abbrev pub refusal_room : ℕ
refusal_room = frame_room 4

abbrev pub table_room : ℕ
table_room = frame_room 6

abbrev pub judgement_room : ℕ
judgement_room = frame_room 3

abbrev pub comparison_room : ℕ
comparison_room = frame_room 3

abbrev pub total_room : ℕ
total_room = frame_room 3

abbrev pub step_room : ℕ
step_room = frame_room 4

abbrev pub run_room : ℕ
run_room = frame_room (3 + max_task_nodes)

-- All frames of a task: a run's are the longest.
abbrev pub task_room : ℕ
task_room = step_room * max_steps + run_room

-- The digits of a term of an equation, of all bindings, and of all elements; the frame of a line has three bytes more.
abbrev pub term_room : ℕ
term_room = 2 * max_side_nodes

abbrev pub bindings_room : ℕ
bindings_room = variable_count * (2 + term_room)

abbrev pub elements_room : ℕ
elements_room = max_elements * (term_room + term_room)

abbrev pub line_room : ℕ
line_room = frame_room 3 + bindings_room + elements_room
