-- `open_sheet` gives the first piece.
use Rattle.opening.proofs.OpenLaws.{sheet_refused}
use Rattle.opening.proofs.open.open_sheet.Goals as goal

pub returns-in-Err : goal.returns-in-Err
returns-in-Err c =
    sheet_refused _ c.refused.ensures c.read_sheet.ensures c.in-Err.is c.requires.table_bytes_in_bounds.2 c.put_refusal-bytes.ensures
