-- `table_seen::look_sound` meets its contract: 5 past the words, and otherwise the logical value and version.
use mathlib.Core.Path.{◌∙◌}
use native.Mathlib.Omega.{arith}
use Rattle.table_seen.proofs.Looks.{past_the_words, seen}
use Rattle.table_seen.proofs.look_sound.Goals as goal

pub returns-then-sound-address : goal.returns-then-sound-address
returns-then-sound-address c = c.from-then-sound-address.ensures ∙ past_the_words _ _ c.args.sound.sound _ _ c.from.ensures c.if-sound-address.true

pub logical-seen-requires : goal.logical-seen-requires
logical-seen-requires c = omega arith

pub returns : goal.returns
returns c = c.from-2.ensures ∙ seen _ _ c.args.sound.sound _ _ c.logical-seen.ensures (omega arith)
