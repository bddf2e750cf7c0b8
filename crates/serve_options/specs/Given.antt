-- The options that are given.
use Rattle.std.specs.Prelude.{◌≡◌, ℕ, ◌<◌, ◌≤◌, take, slice_index_or, List, [], ◌∷◌, ◌++◌, length, flat_map, All, Bool, false, Option, Some, None, IsNone, IfSome, IsSomeAnd, Result, Ok, Err, nat_eq, codes}
use Rattle.std.specs.Borrow.{Bor}
use Rattle.std.specs.List.{find, starts_with}
use Rattle.std.specs.Option.{option_map}
use Rattle.values.specs.Maybe.{◌>>=◌}
use Rattle.serve_options.specs.declared.row.Name.{Name}
use Rattle.serve_options.specs.declared.row.Kind.{Kind}
use Rattle.serve_options.specs.declared.row.Kind.TheVariants.{Nothing, Level}
use Rattle.serve_options.specs.declared.error.OptionError.{OptionError}
use Rattle.serve_options.specs.declared.given.Given.{Given}
use Rattle.serve_options.specs.Defaults.{option_default}
use Rattle.serve_options.specs.Places.{name_place}
use Rattle.serve_options.specs.Rows.{option_word, option_kind, option_bounds}
use Rattle.serve_options.specs.Values.{number_within}

abbrev pub is_named : Name → Given → Bool
is_named name option = nat_eq (name_place option.name) (name_place name)

-- The option of this name.
abbrev pub given_of : Name → List Given → Option Given
given_of name given = find (is_named name) given

abbrev pub value_or_default : Name → Option Given → Option (List ℕ)
value_or_default name None = option_default name
value_or_default name (Some option) = option_map (λ text. text.now) option.value

-- The value of an option as it is spelled: as it is given, or its default.
abbrev pub value_of : Name → List Given → Option (List ℕ)
value_of name given = value_or_default name (given_of name given)

-- Its number, if it is within the bounds of the option.
abbrev pub number_given : Name → List Given → Option ℕ
number_given name given = value_of name given >>= number_within (option_bounds name)

-- No number, a number, or a text that spells none.
abbrev pub number_answer : Result (Option ℕ) OptionError → Option (Option ℕ)
number_answer (Ok None) = None
number_answer (Ok (Some number)) = Some (Some number)
number_answer (Err error) = Some None

-- ---- how options are spelled

-- Two dashes in front.
abbrev pub begins_as_option : List ℕ → Bool
begins_as_option word = starts_with nat_eq word (codes "--")

-- The first word is a value, and these are the words after it.
pub record IsFirstValue (words : List (List ℕ)) (value : List ℕ) (rest : List (List ℕ)) : Type 0 where
  pub front : words ≡ value ∷ rest
  pub is_value : begins_as_option value ≡ false

-- The words of an option: its name, and its value, if it has one.
abbrev pub words_of_value : Option (Bor (List ℕ)) → List (List ℕ)
words_of_value None = []
words_of_value (Some value) = value.now ∷ []

abbrev pub words_of_option : Given → List (List ℕ)
words_of_option option = option_word option.name ∷ words_of_value option.value

-- Which options have a value: all that take one, but that of the log's level may be left out.
abbrev pub IsValueOf : Kind → Option (Bor (List ℕ)) → Type 0
IsValueOf Nothing value = IsNone value
IsValueOf Level value = IfSome value (λ text. begins_as_option text.now ≡ false)
IsValueOf kind value = IsSomeAnd value (λ text. begins_as_option text.now ≡ false)

-- An option was read from the words behind its name, and these are left.
pub record IsReadOption (name : Name) (words : List (List ℕ)) (option : Given) (rest : List (List ℕ)) : Type 0 where
  pub named : option.name ≡ name
  pub spelled : words ≡ words_of_value option.value ++ rest
  pub fits : IsValueOf (option_kind name) option.value
  pub shorter : length rest ≤ length words

-- No option stands behind one of its name.
abbrev pub IsOnce : List Given → Type 0
IsOnce given =
    (k : ℕ) (option : Given) → k < length given → given_of (slice_index_or given k option).name (take k given) ≡ None

-- The words spell these options, one after the other; each is there once, and has a value where it takes one.
pub record IsGivenBy (given : List Given) (words : List (List ℕ)) : Type 0 where
  pub spelled : words ≡ flat_map words_of_option given
  pub fit : All (λ option. IsValueOf (option_kind option.name) option.value) given
  pub once : IsOnce given
