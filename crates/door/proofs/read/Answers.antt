-- `door::read` meets its contract.
-- Assumes nothing.
use mathlib.Core.Path.{refl}
use Rattle.door.specs.Served.{is_reader}
use Rattle.door.proofs.Deciding.{decided, sound_found, none_found, form_known}
use Rattle.door.proofs.Serving.{reads, reads_none, reads_other}
use Rattle.door.proofs.read.Goals as goal

pub returns-then-not-inspect : goal.returns-then-not-inspect
returns-then-not-inspect c = reads_none (none_found refl c.inspect.ensures c.if-not-inspect.true)

pub returns-then-not-is_reader : goal.returns-then-not-is_reader
returns-then-not-is_reader c =
    reads_other (sound_found refl c.inspect.ensures c.if-not-inspect.false) (form_known is_reader c.is_reader.ensures c.form.ensures c.if-not-is_reader.true)

pub decide-requires : goal.decide-requires
decide-requires c = sound_found refl c.inspect.ensures c.if-not-inspect.false

pub returns : goal.returns
returns c =
    reads (decided refl c.decide.ensures) (sound_found refl c.inspect.ensures c.if-not-inspect.false)
    (form_known is_reader c.is_reader.ensures c.form.ensures c.if-not-is_reader.false)
