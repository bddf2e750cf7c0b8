use Rattle.std.proofs.Common.{rules, ◌≡◌, ◌∷◌, ◌++◌, [], List, None, map, string_bytes, sym, ap, subst, ◌∙◌}
use Rattle.std.specs.Prelude.{flat_map, All}
use Rattle.std.proofs.lemmas.List.Elements.{All-append}
use Rattle.serve_options.specs.Rows.{option_word, option_kind}
use Rattle.serve_options.specs.Given.{words_of_option, IsValueOf, given_of, IsOnce}
use Rattle.serve_options.specs.declared.given.Given.{Given}
use Rattle.serve_options.proofs.Spelled.{one_more, all_of_one, once_more, none_at}
use Rattle.serve_options.proofs.given.given_in.Goals as goal

-- The words of the option that was read follow those of the options before it.
pub loop-word-preserved : goal.loop-word-preserved
loop-word-preserved c =
    let P : Given → Type 0 = λ option. IsValueOf (option_kind option.name) option.value in
    let given = c.loop-word.given.items in
    let option = c.in_ok-option.field-0.option in
    let read = c.in_ok-option.ensures in
    let pushed : c.push.new.self.items ≡ given ++ option ∷ [] = search rules in
    let all = map string_bytes c.args.words.now in
    let after = map string_bytes c.in_ok-option.field-0.rest.now in
    let others = map string_bytes c.in-Some.others.now in
    let cut : map string_bytes c.loop-word.rest.now ≡ string_bytes c.in-Some.word.now ∷ others =
    ap (map string_bytes) c.in-Some.ensures.cases.0 in
    let named : option_word option.name ≡ string_bytes c.in-Some.word.now =
    ap option_word read.named ∙ c.in_ok-name.ensures ∙ c.as_str.ensures.value in
    let none : given_of option.name given ≡ None =
    ap (λ n. given_of n given) read.named
    ∙ ap (given_of c.in_ok-name.name) (sym c.as_slice.ensures.value)
    ∙ sym c.find_given.ensures ∙ none_at c.find_given.result (sym c.is_some.ensures ∙ c.if-is_some.false) in
    record {
      spelled =
          subst (λ (g : List Given). all ≡ flat_map words_of_option g ++ after) (sym pushed)
          (one_more given option all _ after _
          (c.loop-word.invariant.spelled ∙ ap (λ l. flat_map words_of_option given ++ l) cut) named read.spelled);
      fit =
          subst (λ (g : List Given). All P g) (sym pushed)
          (All-append P given (option ∷ []) c.loop-word.invariant.fit
          (all_of_one P option (subst (λ n. IsValueOf (option_kind n) option.value) (sym read.named) read.fits)));
      once = subst (λ (g : List Given). IsOnce g) (sym pushed) (once_more given option c.loop-word.invariant.once none);
    }
