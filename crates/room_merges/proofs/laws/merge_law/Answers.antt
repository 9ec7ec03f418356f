use Rattle.room_merges.proofs.Chained.{blocks_begin, blocks_end, blocks_go_on, body_is_written, joining_begins, joining_ends, joining_goes_on, joining_lasts, measure_is_told, shown_by_eye, writing_lasts}
use Rattle.room_merges.proofs.Working.{turns_last}
use Rattle.room_merges.proofs.laws.merge_law.Goals as goal

pub returns : goal.returns
returns c = record { shown = shown_by_eye; measured = measure_is_told; begin = blocks_begin; more = blocks_go_on; end = blocks_end; written = body_is_written; joining_begins = joining_begins; joining_more = joining_goes_on; joining_ends = joining_ends; lasts = writing_lasts; joining_lasts = joining_lasts; turns_last = turns_last }
