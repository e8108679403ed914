-- What a layout lays out.
use Rattle.table.specs.declared.table.Table.{Table}
use Rattle.table.specs.Contents.{Contents}
use Rattle.table.specs.Held.{contents}
use Rattle.recovery.specs.declared.layout.Layout.{Layout}

-- the table that the layout l was made from
abbrev pub table_of : Layout → Table
table_of l = l.table

-- what that table says
abbrev pub laid_out : Layout → Contents
laid_out l = contents (table_of l)
