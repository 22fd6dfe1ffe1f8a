-- `next_piece` goes on from the cursor's place.
use Rattle.places.specs.Theory.Places.{table_stands, line_stands, task_stands, from_the_table, from_the_line, at_place, stands_at}
use Rattle.pieces.proofs.next.next_piece.Goals as goal

pub from_table-requires : goal.from_table-requires
from_table-requires c =
    record { has_place = table_stands (stands_at c.in-Table.is c.requires.stands_at.0); scratch_bytes_in_bounds = (c.requires.table_bytes_in_bounds.1, c.requires.table_bytes_in_bounds.2) }

pub from_line-requires : goal.from_line-requires
from_line-requires c =
    record { has_place = line_stands (stands_at c.in-Line.is c.requires.stands_at.0); line_room_in_bounds = c.requires.table_bytes_in_bounds.2 }

pub from_task-requires : goal.from_task-requires
from_task-requires c =
    record { ready = task_stands (stands_at c.in-Task.is c.requires.stands_at.0); table_bytes_in_bounds = c.requires.table_bytes_in_bounds }

pub returns-in-Start : goal.returns-in-Start
returns-in-Start c =
    at_place c.in-Start.is c.open_sheet.ensures

pub returns-in-Table : goal.returns-in-Table
returns-in-Table c =
    let there = c.in-Table.is in at_place there (from_the_table (stands_at there c.requires.stands_at.0) c.from_table.ensures)

pub returns-in-Line : goal.returns-in-Line
returns-in-Line c =
    let there = c.in-Line.is in at_place there (from_the_line (stands_at there c.requires.stands_at.0) c.from_line.ensures)

pub returns-in-Task : goal.returns-in-Task
returns-in-Task c =
    at_place c.in-Task.is c.from_task.ensures

pub returns-in-End : goal.returns-in-End
returns-in-End c =
    absurd (c.requires.stands_at.1 c.in-End.is)
