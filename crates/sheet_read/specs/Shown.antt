-- What a reader shows.
use Rattle.sheet_read.specs.declared.Reader.{Reader}
use Rattle.sheet_text.specs.Read as text

abbrev pub shown : Reader → text.Reader
shown r = text.reader r.spot r.line r.length r.lines r.fault
