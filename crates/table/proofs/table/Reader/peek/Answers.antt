use Rattle.std.proofs.Common.{◌≡◌, ap, ◌∙◌, rules}
use Rattle.std.specs.Prelude.{ok_or, slice_get}
use Rattle.std.proofs.lemmas.Option.{gets}
use Rattle.table.specs.declared.fault.TableFault.TheVariants.{Short}
use Rattle.table.proofs.Readers.{peeked}
use Rattle.table.proofs.table.Reader.peek.Goals as goal

pub returns : goal.returns
returns c =
    let r = c.args.self.now in
    let found : c.copied.result ≡ slice_get r.bytes.now r.at = search (rules, gets) in
    rw (c.ok_or.ensures.value ∙ ap (λ o. ok_or o (Short r.at)) found) (peeked r c.requires)
