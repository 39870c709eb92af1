use Rattle.std.proofs.Common.{arith, inl, inr}
use Rattle.io_edge.proofs.Listed.{listed}
use Rattle.io_edge.proofs.mem_files.MemFilesFiles.read.Goals as goal
use Rattle.io_edge.proofs.mem_files.MemFilesFiles.read.Goals.{then-contains, else-contains}

pub returns-in_default-clause-fails : goal.returns-in_default-clause-fails
returns-in_default-clause-fails c = elim c.if-contains.branch [
  | then-contains w ↦ inl (let p = w.if-contains.ensures.cases in listed _ _ c.saturating_add-self.result p.0 c.deref.ensures.value p.1 p.2)
  | else-contains w ↦ inr (grind (arith, c.in_default.is, w.bytes-is, w.find-bytes.ensures))
]
