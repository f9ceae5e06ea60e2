-- `crc::crc32` meets its contract: the bytes that std gives are the definition's.
-- Assumes nothing.
use mathlib.Core.Path.{ap, ◌∙◌}
use Rattle.crc.specs.Crc.{crc_of}
use Rattle.crc.proofs.Bytes.{bytes_are}
use Rattle.crc.proofs.crc32.Goals as goal

pub returns : goal.returns
returns c = c.of_bytes.ensures ∙ ap crc_of (c.to_le_bytes.ensures ∙ bytes_are c.args.code.0)
