-- Every claim of specs/Claims.antt, proved.
use Rattle.sheet_text.specs.Claims.{EveryClaim}
use Rattle.sheet_text.proofs.Buffers.{buffers_are_left, short_is_told}
use Rattle.sheet_text.proofs.ReadRows.{good_rows_are_read, last_may_lack_its_end, first_fault_decides, first_fault_is_told}
use Rattle.sheet_text.proofs.OnlyRows.{only_rows_are_read, astray_is_told, every_text_divides}
use Rattle.sheet_text.proofs.Records.{lines_are_records, end_is_told}
use Rattle.sheet_text.proofs.Written.{written_is_rows, written_is_read_back, written_is_short}

pub every_claim : EveryClaim
every_claim =
    record {
      buffers_are_left = buffers_are_left;
      short_is_told = short_is_told;
      good_rows_are_read = good_rows_are_read;
      last_may_lack_its_end = last_may_lack_its_end;
      first_fault_decides = first_fault_decides;
      first_fault_is_told = first_fault_is_told;
      only_rows_are_read = only_rows_are_read;
      astray_is_told = astray_is_told;
      every_text_divides = every_text_divides;
      lines_are_records = lines_are_records;
      end_is_told = end_is_told;
      written_is_rows = written_is_rows;
      written_is_read_back = written_is_read_back good_rows_are_read;
      written_is_short = written_is_short;
    }
