use Prim.Native.Nat.{min}
use borrow.Author.Rules.{rules}
use Rattle.job.specs.Parts.{points}
use Rattle.es_file.specs.File.{km_of, found_of}
use Rattle.es_file.proofs.FoundLaws.{places, before_last}
use Rattle.es_file.proofs.in_all.Goals as goal

pub returns-in_err-in_points : goal.returns-in_err-in_points
unfolding found_of
returns-in_err-in_points c =
    let file = c.args.file.now in
    let h = before_last file (min (km_of file) points) _ _ c.in_err-in_points.was (rw c.word-km.ensures) c.in_points.ensures in
    search (rules, places, h)
