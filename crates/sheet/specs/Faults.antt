-- The faults of the sheet layer.
use Rattle.faults.specs.declared.Fault.{Fault}
use Rattle.faults.specs.declared.Layer.TheVariants as layer
use Rattle.faults.specs.Faults.{found, passed}
use Rattle.bracket_table.specs.Faults.{table_fault}
use Rattle.sheet.specs.declared.fault.SheetFault.{SheetFault}
use Rattle.sheet.specs.declared.fault.SheetFault.TheVariants.{OtherSize, Incomplete, OtherLength, Table}

-- faults of the table layer are passed up whole
abbrev pub sheet_fault : SheetFault → Fault
sheet_fault OtherSize = found 5 layer.Sheet 0 0
sheet_fault Incomplete = found 11 layer.Sheet 0 0
sheet_fault OtherLength = found 12 layer.Sheet 0 0
sheet_fault (Table lower) = passed layer.Sheet (table_fault lower)
