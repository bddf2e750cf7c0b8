-- The model of the numbers of one text.
use Rattle.std.specs.FinSet as set
use Rattle.pairs.specs.Pairs.{Numbers}
use Rattle.pairs.specs.declared.row.RowForm.{RowForm}
use Rattle.pairs.specs.declared.row.RowForm.TheVariants.{Empty, One, Many}

abbrev pub row_numbers : RowForm → Numbers
row_numbers Empty = set.empty
row_numbers (One number) = set.insert set.empty number
row_numbers (Many numbers) = numbers.value
