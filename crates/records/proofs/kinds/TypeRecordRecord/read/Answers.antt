use Rattle.std.proofs.Common.{◌∷◌, ap, ◌∙◌}
use Rattle.records.specs.Readers.{ahead_of}
use Rattle.records.proofs.Nexts.{type_written}
use Rattle.records.proofs.Sound.{byte_sound, count_sound}
use Rattle.records.proofs.kinds.TypeRecordRecord.read.Goals as goal

pub returns-clause-written : goal.returns-clause-written
returns-clause-written c =
    let s = c.args.reader.now in
    let n = c.in_ok-count.count in
    let inside = ahead_of s in
    let count = count_sound 1 16 c.args.mark inside s.at c.in_ok-count.ensures.1 in
    let byte = byte_sound c.args.mark inside s.at count.0 in
    let two = c.in_ok-constructors.ensures.written in
    type_written n (0x44 ∷ (0x54 ∷ inside)) c.in_ok-constructors.constructors.now (ahead_of c.lists.new.self) two.1
    (ap (λ k. 0x44 ∷ (0x54 ∷ k)) (byte.0 ∙ ap (λ k. n ∷ k) two.0))
