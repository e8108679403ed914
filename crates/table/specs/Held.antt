-- What the program's own values say.
use Rattle.table.specs.declared.table.Draft.{Draft}
use Rattle.table.specs.declared.table.Table.{Table}
use Rattle.table.specs.Contents.{Contents}
use Rattle.table.specs.Parts.{from_parts}

abbrev pub draft_contents : Draft → Contents
draft_contents t = from_parts t.sizes.v t.sizes.n t.sizes.k t.grade t.points

-- what the table t says
abbrev pub contents : Table → Contents
contents t = draft_contents t.draft
