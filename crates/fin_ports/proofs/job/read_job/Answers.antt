use Rattle.std.proofs.Common.{ℕ, List, ◌++◌, Err, ◌∙◌, arith, length-append}
use Rattle.std.specs.declared.option.Option.{Option}
use Rattle.std.specs.Io.KnownBytes.{Consumes}
use Rattle.std.proofs.KnownBytes.{Consumes-trans}
use Rattle.fin_ports.specs.Bytes.{LeftBy, ReadsPiece}
use Rattle.fin_ports.specs.declared.job.JobRead.{JobRead}
use Rattle.fin_ports.specs.declared.job.JobRead.TheVariants.{Fault, TooLong, Memory}
use Rattle.fin_ports.proofs.job.read_job.Goals as goal

-- what a last piece took stands behind what was taken before
left_by : (e : JobRead) (a b c : Option (List ℕ)) (before after : List ℕ) → Consumes a b before → ReadsPiece before after b c (Err e) → LeftBy a c e
left_by Fault a b c before after read (bytes, took, many) = (before ++ bytes, Consumes-trans a b c _ _ read took, omega (arith, length-append before bytes))
left_by TooLong a b c before after read (bytes, took, many) = (before ++ bytes, Consumes-trans a b c _ _ read took, length-append before bytes ∙ many)
left_by (Memory e) a b c before after read (bytes, took, many) = (before ++ bytes, Consumes-trans a b c _ _ read took, omega (arith, length-append before bytes))

pub returns-in-Err-clause-bytes : goal.returns-in-Err-clause-bytes
returns-in-Err-clause-bytes g c = left_by c.in-Err.e _ _ _ _ c.read_piece.new.bytes.items c.pieces.invariant.read c.in-Err.ensures.bytes
