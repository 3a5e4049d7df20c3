-- `Out::put_number` meets its contract: the digits but the last are put by the call of itself, and the last after them.
use Rattle.session_text.proofs.Laws.{put_few, put_many}
use Rattle.session_text.proofs.Out.+put_number.Goals as goal

pub returns-then-n-lt10 : goal.returns-then-n-lt10
returns-then-n-lt10 t c = put_few c.if-n-lt10.true c.put_byte.ensures

pub returns-else-n-lt10 : goal.returns-else-n-lt10
returns-else-n-lt10 t c = put_many c.if-n-lt10.false c.ranges.n.fits c.put_number.ensures c.put_byte-else-n-lt10.ensures
