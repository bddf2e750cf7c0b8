-- The model of the texts of one number.
use Rattle.std.specs.FinSet as set
use Rattle.pairs.specs.Pairs.{TextKeys}
use Rattle.pairs.specs.declared.text_table.TableForm.{TableForm}
use Rattle.pairs.specs.declared.text_table.TableForm.TheVariants.{Empty, One, Many}

abbrev pub table_texts : TableForm → TextKeys
table_texts Empty = set.empty
table_texts (One text) = set.insert set.empty text
table_texts (Many texts) = texts.value
