-- Bytes have one answer, and those of a table that table.
use Rattle.std.proofs.Common.{◌≡◌, ℕ, List, None, Ok, Err, Result, sym, ap, ◌∙◌}
use Rattle.table.specs.declared.fault.TableFault.{TableFault}
use Rattle.table.specs.declared.table.Table.{Table}
use Rattle.table.specs.Contents.{bytes_of}
use Rattle.table.specs.Place.{contents_of}
use Rattle.table.specs.Reading.{fault}
use Rattle.table.specs.Held.{contents}
use Rattle.table.specs.Answers.{Read, OneAnswer}
use Rattle.table.proofs.Formed.{formed}
use Rattle.table.proofs.Rounds.{accepted, again}
use Rattle.table.proofs.SameTables.{same_table}

pub reread : (t : Table) (bs : List ℕ) → bs ≡ bytes_of (contents t) → (r : Result Table TableFault) → Read bs r → r ≡ Ok t
reread t bs e (Ok u) d = ap Ok (same_table u t (d.says ∙ ap contents_of e ∙ again (contents t) (formed t.draft)))
reread t bs e (Err f) d = let none : fault bs ≡ None = ap fault e ∙ accepted (contents t) (formed t.draft) t.sound in cc d.is

pub one_answer : (bs : List ℕ) (r : Result Table TableFault) → Read bs r → OneAnswer bs r
one_answer bs (Ok t) d (Ok u) e = ap Ok (d.only u (e.says ∙ sym d.says))
one_answer bs (Ok t) d (Err g) e = cc (d.no_fault, e.is)
one_answer bs (Err f) d (Ok u) e = cc (d.is, e.no_fault)
one_answer bs (Err f) d (Err g) e = cc (d.is, e.is)
