-- The model of the names.
use Rattle.std.specs.Prelude.{List, map}
use Rattle.pairs.specs.Pairs.{Bytes}
use Rattle.pairs.specs.declared.text_key.KeyQuery.{KeyQuery}

abbrev pub key_texts : List KeyQuery → List Bytes
key_texts keys = map (λ key. key.0.now) keys
