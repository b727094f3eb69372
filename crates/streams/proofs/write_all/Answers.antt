use Rattle.std.proofs.Common.{rules, subst}
use Rattle.std.specs.Io.KnownBytes.{Appends}
use Rattle.std.proofs.KnownBytes.{Appends-trans}
use Rattle.streams.proofs.Parts.{written_more}
use Rattle.streams.proofs.write_all.Goals as goal

pub loop-done-preserved : goal.loop-done-preserved
loop-done-preserved g c =
    (search rules, subst (Appends _ _) (written_more c.loop-done.done c.in_ok-n.n c.args.bytes.now) (Appends-trans _ _ _ _ _ c.loop-done.invariant.1 (search rules)))
