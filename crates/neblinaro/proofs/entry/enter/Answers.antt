-- `enter` tests the length first, then reads the sheet.
use Rattle.neblinaro.proofs.RefusedEarly.{sheet_entered, short_entered}
use Rattle.neblinaro.proofs.entry.enter.Goals as goal

pub returns-then-long_enough : goal.returns-then-long_enough
returns-then-long_enough c = sheet_entered c.args.sheet.now c.args.long_enough c.if-long_enough.true c.read_sheet.result c.read_sheet.ensures

pub returns-else-long_enough : goal.returns-else-long_enough
returns-else-long_enough c = short_entered c.args.sheet.now c.args.long_enough c.if-long_enough.false
