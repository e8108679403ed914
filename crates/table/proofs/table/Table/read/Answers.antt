use Rattle.std.proofs.Common.{◌≡◌, ℕ, List, is_some, Some, None, Ok, Err, sym, ap, ◌∙◌, arith}
use Rattle.std.specs.Result.{result_err}
use Rattle.std.proofs.lemmas.Result.{err_from_is_err_and}
use Rattle.table.specs.declared.fault.TableFault.{TableFault}
use Rattle.table.specs.Answers.{Refused, Read}
use Rattle.table.proofs.Rereads.{one_answer}
use Rattle.table.proofs.Tells.{told}
use Rattle.table.specs.Reading.{clash, fault}
use Rattle.table.specs.Contents.{bytes_of}
use Rattle.table.specs.Held.{draft_contents}
use Rattle.table.proofs.Formed.{formed}
use Rattle.table.proofs.Validity.{valid}
use Rattle.table.proofs.Rounds.{back}
use Rattle.table.proofs.SameTables.{same_table}
use Rattle.table.proofs.Faults.{sound_at}
use Rattle.table.proofs.table.Table.read.Goals as goal

refused : (bs : List ℕ) (f : TableFault) → fault bs ≡ Some f → Refused bs f
refused bs f e = record { is = e; told = told bs f e }

pub returns-in_err-draft : goal.returns-in_err-draft
returns-in_err-draft c =
    let bs = c.args.bytes.now in
    let p = err_from_is_err_and c.from_residual.result c.from_residual.ensures.1 in
    let r : Read bs (Err _) = refused bs _ c.in_err-draft.ensures in
    rw (p.1, p.2) (record { answer = r; one = one_answer bs (Err _) r })

pub returns-in_err-sound : goal.returns-in_err-sound
returns-in_err-sound c =
    let bs = c.args.bytes.now in
    let t = c.in_ok-draft.ensures in
    let p = err_from_is_err_and c.from_residual-in_err-sound.result c.from_residual-in_err-sound.ensures.1 in
    let clashes = sym c.sound.ensures ∙ ap result_err c.in_err-sound.was in
    let r : Read bs (Err _) = refused bs _ (sound_at bs t.passed (omega arith) ∙ ap clash (sym t.says) ∙ clashes) in
    rw (p.1, p.2) (record { answer = r; one = one_answer bs (Err _) r })

pub returns : goal.returns
returns c =
    let bs = c.args.bytes.now in
    let t = c.in_ok-draft.ensures in
    let d = c.in_ok-draft.draft in
    let sound : clash (draft_contents d) ≡ None = sym c.sound.ensures ∙ ap result_err c.in_ok-sound.was in
    let r : Read bs (Ok _) = record {
      no_fault = sound_at bs t.passed (omega arith) ∙ ap clash (sym t.says) ∙ sound;
      says = t.says;
      valid = valid (draft_contents d) (formed d) (ap is_some sound);
      back = ap bytes_of t.says ∙ back bs t.passed t.whole;
      only = λ u. same_table u _;
    } in
    record { answer = r; one = one_answer bs (Ok _) r }
