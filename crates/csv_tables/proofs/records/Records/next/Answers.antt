use Rattle.std.proofs.lemmas.Grind.{common_steps}
use Rattle.std.proofs.Common.{Bor, List, ℕ, Some, arith}
use Rattle.csv.specs.Records.{fields_of}
use Rattle.csv_tables.proofs.Left.{read-left}
use Rattle.csv_tables.proofs.records.Records.next.Goals as goal

pub returns : goal.returns
returns c =
    read-left (λ (s : Bor (List ℕ)). Some s.now) c.self.inside.reader c.read_byte_record.new.self (fields_of c.read_byte_record.new.row) c.in-Ok.found _ c.self.invariant
    (λ failed. let h = c.read_byte_record.ensures.failed failed in cc (h, c.in-Ok.is)) c.in-Ok.ensures.reads c.self.view_is

pub invariant_of-self-2 : goal.invariant_of-self-2
invariant_of-self-2 c = grind (arith, common_steps)
