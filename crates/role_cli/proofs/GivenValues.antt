-- If the arguments have no fault, each row of a subcommand has a value that its argument's parser accepts,
-- and each required argument has a row.
use Rattle.std.proofs.Common.{◌≡◌, ◌∙◌, ◌&&◌, ◌||◌, ℕ, Bool, cond, codes, true, false, not, zero, suc, refl, sym, ap, subst, List, [], ◌∷◌, ◌++◌, length, drop, Option, Some, None, is_some, true≢false, find}
use Rattle.std.specs.Prelude.{⊤, slice_get, encode_utf8, fold, nat_lt, option_map}
use Rattle.std.specs.Option.{option_map_or}
use Rattle.std.specs.List.{list_any}
use Rattle.std.specs.Str.{bytes_eq, chars}
use Rattle.std.proofs.lemmas.Slice.Eq.{bytes_eq-Decides}
use Rattle.clap.specs.Lexer.{long_of, short_of}
use Rattle.clap.specs.Values.{is_request}
use Rattle.clap.specs.ValueTests.{accepts}
use Rattle.clap.specs.Facts.{explicit_source, parser_of_value, unwrap_or_range}
use Rattle.clap.specs.Walk.{Held, Names, Outcome, Row, Rule, Step, Text, Waiting, Walk, done, waits, plain, refused, idle, option, positional, next, trailing, subcommand, value}
use Rattle.clap.specs.Walk.{action_of, after_flag, after_step, answers_to, arg_by_id, arg_by_index, arg_by_long, arg_by_short, at_row, attached_value, bundle, bundle_met, bundle_step, default_rows, finished, flag_met, has_row, is_empty, is_pending, long_met, long_or_other, more_values, most_values, nothing_held, option_met, option_word, plain_word, reacted, reading_by, settled, settled_rows, short_met, short_or_plain, subcommand_met, subcommand_or_other, takes_several, takes_values, to_positional, used, used_as, used_by_id, values_or_missing, walk, walk_from, walked, walked_from, with_default, with_values, without, word_met}
use Rattle.clap.specs.Takes.{is_given, values_pass, value_passes}
use Rattle.clap.specs.Simple.{App, Shape, argument_words, built, entered, label_of, names_of, rows_at, subcommand_of}
use Rattle.clap.specs.Kinds.{Kinds, check_kinds, or_else, range_kinds, value_kinds}
use Rattle.clap.specs.Faults.{action_fault, bundle_fault, bundle_step_fault, defaults_fault, entered_fault, fault_of, flag_word_fault, flags_fault, level_fault, stray_fault, long_fault, option_fault, other_fault, positional_fault, react_fault, settle_fault, short_fault, step_fault, turn_fault, use_fault, values_fault, walk_fault, word_fault}
use Rattle.clap.specs.declared.builder.action.ArgAction.{ArgAction}
use Rattle.clap.specs.declared.builder.action.ArgAction.TheVariants as action
use Rattle.clap.specs.declared.error.kind.ErrorKind.{ErrorKind}
use Rattle.clap.specs.declared.parser.matches.ValueSource.{ValueSource}
use Rattle.clap.specs.declared.builder.value_parser.ValueParser.{ValueParser}
use Rattle.clap.proofs.WalkLemmas.{both}
use Rattle.clap.proofs.ValueTestLemmas.{accepts-Accepts}
use Rattle.clap.specs.Values.{Accepts}
use Rattle.clap.specs.Walk.{rows_after}
use Rattle.role_cli.specs.private.GivenArguments.{IsGiven}

abbrev pub Each : {X : Type 0} → (X → Type 0) → List X → Type 0
Each P [] = ⊤
Each P (x ∷ xs) = P x × Each P xs

abbrev pub IsFull : List Text → Type 0
IsFull [] = ⊥
IsFull (v ∷ vs) = ⊤

-- the row has a value, and its argument's parser accepts each
abbrev pub IsGood : List Rule → Row → Type 0
IsGood c r = IsFull r.values × ((a : Rule) → arg_by_id c r.id ≡ Some a → (values_pass a r.values ≡ true) × (r.reading ≡ reading_by a))

abbrev pub counts : ArgAction → Bool
counts action.Count = true
counts _ = false

-- the argument is the one with its id, a use of it asks for help or gives a value, and its defaults pass
abbrev pub Fits : List Rule → Rule → Type 0
Fits c a = (arg_by_id c a.id ≡ Some a) × (counts (action_of a) ≡ false)
    × ((is_request (action_of a) || (nat_lt 0 (unwrap_or_range a.range).start_inclusive || not (is_empty a.missing))) ≡ true) × (values_pass a a.defaults ≡ true)

-- ---- lists

pub find_each : {X : Type 0} (P : X → Type 0) (p : X → Bool) (xs : List X) (x : X) → Each P xs → find p xs ≡ Some x → P x
find_each P p [] x all found = cc
find_each P p (y ∷ ys) x all found = go (p y) refl (find_each P p ys x all.1)
  where
    go : (b : Bool) → p y ≡ b → (find p ys ≡ Some x → P x) → P x
    go true e more =
        let same : Some y ≡ Some x = rw e at found in
        let is : y ≡ x = ap (λ o. option_map_or (λ z. z) o y) same in
        subst P is all.0
    go false e more = more (rw e at found)

pub find_passes : {X : Type 0} (p : X → Bool) (xs : List X) (x : X) → find p xs ≡ Some x → p x ≡ true
find_passes p [] x found = cc
find_passes p (y ∷ ys) x found = go (p y) refl (find_passes p ys x)
  where
    go : (b : Bool) → p y ≡ b → (find p ys ≡ Some x → p x ≡ true) → p x ≡ true
    go true e more =
        let same : Some y ≡ Some x = rw e at found in
        let is : y ≡ x = ap (λ o. option_map_or (λ z. z) o y) same in
        subst (λ z. p z ≡ true) is e
    go false e more = more (rw e at found)

pub none_any : {X : Type 0} (p q : X → Bool) (xs : List X) (x : X) → find p xs ≡ Some x → list_any q xs ≡ false → q x ≡ false
none_any p q [] x found none = cc
none_any p q (y ∷ ys) x found none = go (p y) refl (none_any p q ys x)
  where
    parts : (a b : Bool) → (a || b) ≡ false → (a ≡ false) × (b ≡ false)
    parts true b e = absurd (true≢false e)
    parts false b e = (refl, e)

    go : (b : Bool) → p y ≡ b → (find p ys ≡ Some x → list_any q ys ≡ false → q x ≡ false) → q x ≡ false
    go true e more =
        let same : Some y ≡ Some x = rw e at found in
        let is : y ≡ x = ap (λ o. option_map_or (λ z. z) o y) same in
        subst (λ z. q z ≡ false) is (parts _ _ none).0
    go false e more = more (rw e at found) (parts _ _ none).1

or_none : (a b : Kinds) → or_else a b ≡ [] → (a ≡ []) × (b ≡ [])
or_none [] b e = (refl, e)
or_none (k ∷ ks) b e = cc

-- ---- rows

each_append : {X : Type 0} (P : X → Type 0) (xs ys : List X) → Each P xs → Each P ys → Each P (xs ++ ys)
each_append P [] ys a b = b
each_append P (x ∷ xs) ys a b = (a.0, each_append P xs ys a.1 b)

at_row_each : (P : Row → Type 0) (id : Text) (change : Row → List Row) (missing : List Row) (rows : List Row)
    → ((r : Row) → P r → bytes_eq r.id id ≡ true → Each P (change r)) → Each P missing → Each P rows → Each P (at_row id change missing rows)
at_row_each P id change missing [] changed fresh all = fresh
at_row_each P id change missing (r ∷ rs) changed fresh all = go (bytes_eq r.id id) refl (at_row_each P id change missing rs changed fresh all.1)
  where
    go : (b : Bool) → bytes_eq r.id id ≡ b → Each P (at_row id change missing rs) → Each P (cond b (change r ++ rs) (r ∷ at_row id change missing rs))
    go true e more = each_append P (change r) rs (changed r all.0 e) all.1
    go false e more = (all.0, more)

full_append : (xs ys : List Text) → IsFull xs → IsFull (xs ++ ys)
full_append [] ys h = absurd h
full_append (x ∷ xs) ys h = tt

and_true : (a b : Bool) → a ≡ true → b ≡ true → (a && b) ≡ true
and_true a b h k = rw (h, k) refl

pass_append : (a : Rule) (xs ys : List Text) → values_pass a xs ≡ true → values_pass a ys ≡ true → values_pass a (xs ++ ys) ≡ true
pass_append a [] ys h k = k
pass_append a (x ∷ xs) ys h k =
    let p = both (value_passes a x) (values_pass a xs) h in
    and_true (value_passes a x) (values_pass a (xs ++ ys)) p.0 (pass_append a xs ys p.1 k)

same_rule : (c : List Rule) (id : Text) (a b : Rule) → arg_by_id c id ≡ Some a → arg_by_id c id ≡ Some b → a ≡ b
same_rule c id a b l r =
    let same : Some a ≡ Some b = sym l ∙ r in
    ap (λ o. option_map_or (λ z. z) o a) same

with_good : (c : List Rule) (a : Rule) (s : ValueSource) (values : List Text) (rows : List Row) → arg_by_id c a.id ≡ Some a → IsFull values
    → values_pass a values ≡ true → Each (IsGood c) rows → Each (IsGood c) (with_values a.id (reading_by a) s values rows)
with_good c a s values rows only full pass all = at_row_each (IsGood c) a.id (more_values s values) _ rows
    (λ r good same.
    let id : r.id ≡ a.id = (bytes_eq-Decides r.id a.id).0 same in (
      (
        full_append r.values values good.0,
        λ b found.
            let is : a ≡ b = same_rule c a.id a b only (subst (λ (t : Text). arg_by_id c t ≡ Some b) id found) in
            let old = good.1 b found in
            (pass_append b r.values values old.0 (subst (λ (z : Rule). values_pass z values ≡ true) is pass), old.1),
      ),
      tt,
    )) (
      (
        full,
        λ b found.
            let is : a ≡ b = same_rule c a.id a b only found in
            (subst (λ (z : Rule). values_pass z values ≡ true) is pass, ap reading_by is),
      ),
      tt,
    ) all

without_good : (c : List Rule) (id : Text) (rows : List Row) → Each (IsGood c) rows → Each (IsGood c) (without id rows)
without_good c id rows all = at_row_each (IsGood c) id (λ _. []) [] rows (λ r good same. tt) tt all

values_pass_from : (a : Rule) (vs : List Text) → values_fault a vs ≡ [] → values_pass a vs ≡ true
values_pass_from a [] e = refl
values_pass_from a (v ∷ vs) e =
    let p = or_none (value_kinds a.ignore_case (parser_of_value a.parser) v) (values_fault a vs) e in
    and_true (value_passes a v) (values_pass a vs) (one (accepts a.ignore_case (parser_of_value a.parser) v) refl p.0) (values_pass_from a vs p.1)
  where
    one : (b : Bool) → accepts a.ignore_case (parser_of_value a.parser) v ≡ b → value_kinds a.ignore_case (parser_of_value a.parser) v ≡ [] → value_passes a v ≡ true
    one true h n = h
    one false h n =
        let bad = rw h at n in
        cc

full_values : (a : Rule) (values : List Text) → (nat_lt 0 (unwrap_or_range a.range).start_inclusive || not (is_empty a.missing)) ≡ true
    → range_kinds (unwrap_or_range a.range).start_inclusive (most_values a) (length values) ≡ [] → IsFull (values_or_missing a values)
full_values a (v ∷ vs) gives none = tt
full_values a [] gives none = go (nat_lt 0 (unwrap_or_range a.range).start_inclusive) refl
  where
    filled : (xs : List Text) → not (is_empty xs) ≡ true → IsFull xs
    filled [] e = absurd (true≢false (sym e))
    filled (x ∷ xs) e = tt

    go : (b : Bool) → nat_lt 0 (unwrap_or_range a.range).start_inclusive ≡ b → IsFull a.missing
    go true e =
        let bad = rw e at none in
        cc
    go false e = filled a.missing (rw e at gives)

used_good : (c : List Rule) (again : Bool) (a : Rule) (x : ArgAction) (raw : List Text) (rows : List Row) → arg_by_id c a.id ≡ Some a → counts x ≡ false → IsFull raw
    → action_fault x again a raw rows ≡ [] → Each (IsGood c) rows → Each (IsGood c) (used_as x a.id (reading_by a) raw rows)
used_good c again a action.Set raw rows only not_counted full none all = with_good c a _ raw _ only full (values_pass_from a raw (or_none _ _ none).1) (without_good c a.id rows all)
used_good c again a action.SetTrue raw rows only not_counted full none all = with_good c a _ raw _ only full (values_pass_from a raw (or_none _ _ none).1) (without_good c a.id rows all)
used_good c again a action.SetFalse raw rows only not_counted full none all = with_good c a _ raw _ only full (values_pass_from a raw (or_none _ _ none).1) (without_good c a.id rows all)
used_good c again a action.Append raw rows only not_counted full none all = with_good c a _ raw _ only full (values_pass_from a raw none) all
used_good c again a action.Count raw rows only not_counted full none all = absurd (true≢false not_counted)
used_good c again a action.Help raw rows only not_counted full none all = all
used_good c again a action.HelpShort raw rows only not_counted full none all = all
used_good c again a action.HelpLong raw rows only not_counted full none all = all
used_good c again a action.Version raw rows only not_counted full none all = all

request_good : (c : List Rule) (a : Rule) (x : ArgAction) (raw : List Text) (rows : List Row) → is_request x ≡ true → Each (IsGood c) rows
    → Each (IsGood c) (used_as x a.id (reading_by a) raw rows)
request_good c a action.Set raw rows e all = absurd (true≢false (sym e))
request_good c a action.SetTrue raw rows e all = absurd (true≢false (sym e))
request_good c a action.SetFalse raw rows e all = absurd (true≢false (sym e))
request_good c a action.Append raw rows e all = absurd (true≢false (sym e))
request_good c a action.Count raw rows e all = absurd (true≢false (sym e))
request_good c a action.Help raw rows e all = all
request_good c a action.HelpShort raw rows e all = all
request_good c a action.HelpLong raw rows e all = all
request_good c a action.Version raw rows e all = all

use_good : (c : List Rule) (again : Bool) (a : Rule) (values : List Text) (rows : List Row) → Fits c a → use_fault again a values rows ≡ [] → Each (IsGood c) rows
    → Each (IsGood c) (used a values rows)
use_good c again a values rows fit none all = go (is_request (action_of a)) refl
  where
    go : (b : Bool) → is_request (action_of a) ≡ b → Each (IsGood c) (used a values rows)
    go true e = request_good c a (action_of a) (values_or_missing a values) rows e all
    go false e =
        let p = or_none _ _ none in
        used_good c again a (action_of a) (values_or_missing a values) rows fit.0 fit.1 (full_values a values (rw e at fit.2) p.0) p.1 all

-- ---- one level of a walk

abbrev Good : List Rule → Held → Type 0
Good c h = Each (IsGood c) h.rows

module _ (c : List Rule) (again : Bool) (fits : Each (Fits c) c) where
  settle_good : (p : Option (Text × List Text)) (rows : List Row) → option_map_or (λ q. option_map_or (λ a. use_fault again a q.1 rows) (arg_by_id c q.0) []) p [] ≡ []
      → Each (IsGood c) rows → Each (IsGood c) (settled_rows c p rows)
  settle_good None rows none all = all
  settle_good (Some q) rows none all = go (arg_by_id c q.0) refl none
    where
      go : (o : Option Rule) → arg_by_id c q.0 ≡ o → option_map_or (λ a. use_fault again a q.1 rows) o [] ≡ [] → Each (IsGood c) (used_by_id o q.1 rows)
      go None e n = all
      go (Some a) e n = use_good c again a q.1 rows (find_each (Fits c) (λ b. bytes_eq b.id q.0) c a fits e) n all

  settled_good : (h : Held) → settle_fault c again h ≡ [] → Good c h → Good c (settled c h)
  settled_good h none all = settle_good h.pending h.rows none all

  reacted_good : (a : Rule) (values : List Text) (h : Held) → Fits c a → react_fault c again a values h ≡ [] → Good c h → Good c (reacted c a values h)
  reacted_good a values h fit none all =
      let p = or_none (settle_fault c again h) _ none in
      use_good c again a values (settled c h).rows fit p.1 (settled_good h p.0 all)

  option_good : (a : Rule) (v : Option Text) (h : Held) → Fits c a → option_fault c again a v h ≡ [] → Good c h → Good c (option_met c a v h).0
  option_good a (Some v) h fit none all = reacted_good a (v ∷ []) h fit none all
  option_good a None h fit none all = settled_good h none all

  long_good : (o : Option Rule) (v : Option Text) (h : Held) → ((a : Rule) → o ≡ Some a → Fits c a) → long_fault c again o v h ≡ [] → Good c h → Good c (long_met c o v h).0
  long_good None v h fit none all = all
  long_good (Some a) v h fit none all = go (takes_values a) v none
    where
      go : (b : Bool) (v : Option Text) → cond b (option_fault c again a v h) (cond (is_some v) (ErrorKind.TooManyValues ∷ []) (react_fault c again a [] h)) ≡ []
          → Good c (cond b (option_met c a v h) (flag_met c a v h)).0
      go true v n = option_good a v h (fit a refl) n all
      go false (Some v) n = all
      go false None n = reacted_good a [] h (fit a refl) n all

  bundle_good : (k : ℕ) (flags : Text) (skip : ℕ) (so_far : Outcome) (h : Held) → flags_fault c again k flags skip h ≡ [] → Good c h → Good c (bundle_met c k flags skip so_far h).0
  unfolding flags_fault bundle_met
  bundle_good zero flags skip so_far h none all = all
  bundle_good (suc k) flags skip so_far h none all = go (λ f s o g. bundle_good k f s o g) (slice_get (chars flags) 0) skip none
    where
      More : Type 0
      More = (f : Text) (s : ℕ) (o : Outcome) (g : Held) → flags_fault c again k f s g ≡ [] → Good c g → Good c (bundle_met c k f s o g).0

      go : More → (o : Option ℕ) (skip : ℕ) → bundle_step_fault c again o flags skip h (flags_fault c again k) ≡ [] → Good c (bundle_step c o flags skip so_far h (bundle_met c k)).0
      go more None skip n = all
      go more (Some x) (suc skip) n = more (drop (length (encode_utf8 x)) flags) skip so_far h n all
      go more (Some x) zero n = here (arg_by_short c x) refl n
        where
          rest : Text
          rest = drop (length (encode_utf8 x)) flags

          here : (o : Option Rule) → arg_by_short c x ≡ o → short_fault c again o rest h (flags_fault c again k rest 0) ≡ [] → Good c (short_met c o rest h (bundle_met c k rest 0 done)).0
          here None e n = all
          here (Some a) e n = take (takes_values a) n
            where
              fit : Fits c a
              fit = find_each (Fits c) _ c a fits e

              take : (b : Bool) → cond b (option_fault c again a (attached_value rest) h) (or_else (react_fault c again a [] h) (flags_fault c again k rest 0 (reacted c a [] h))) ≡ []
                  → Good c (cond b (option_met c a (attached_value rest) h) (bundle_met c k rest 0 done (reacted c a [] h))).0
              take true n = option_good a (attached_value rest) h fit n all
              take false n =
                  let p = or_none (react_fault c again a [] h) _ n in
                  more rest 0 done (reacted c a [] h) p.1 (reacted_good a [] h fit p.0 all)

-- ---- the arguments

-- the subcommand is not `help`, if `help` is one
abbrev IsNoHelp : Bool → Step → Type 0
IsNoHelp d (next waiting) = ⊤
IsNoHelp d (trailing position) = ⊤
IsNoHelp d (subcommand name) = (bytes_eq name (codes "help") && not d) ≡ false
IsNoHelp d value = ⊤

abbrev pub StopsAtNoHelp : Bool → Option (Text × List Text) → Type 0
StopsAtNoHelp d None = ⊤
StopsAtNoHelp d (Some p) = (bytes_eq p.0 (codes "help") && not d) ≡ false

module _ (s : Shape) (names : Names) (fits : Each (Fits s.rules) s.rules) where
  plain_good : (waiting : Waiting) (word : Text) (h : Held) → Good s.rules h
      → Good s.rules (plain_word s.rules waiting word h).0 × IsNoHelp s.disable_help_subcommand (plain_word s.rules waiting word h).1
  plain_good idle word h all = (all, tt)
  plain_good positional word h all = (all, tt)
  plain_good (option id) word h all = go (arg_by_id s.rules id)
    where
      go : (o : Option Rule) → Good s.rules (option_word o id word h).0 × ⊤
      go None = (all, tt)
      go (Some a) = (all, tt)

  after_good : (waiting : Waiting) (word : Text) (h : Held) (o : Outcome) → Good s.rules h
      → Good s.rules (after_flag s.rules waiting word h o).0 × IsNoHelp s.disable_help_subcommand (after_flag s.rules waiting word h o).1
  after_good waiting word h done all = (all, tt)
  after_good waiting word h (waits id) all = (all, tt)
  after_good waiting word h plain all = plain_good waiting word h all
  after_good waiting word h refused all = plain_good waiting word h all

  flags_good : (waiting : Waiting) (word : Text) (o : Option (Text × Option Text)) (h : Held) → flag_word_fault s.rules s.args_override_self o word h ≡ [] → Good s.rules h
      → Good s.rules (long_or_other s.rules waiting word o h).0 × IsNoHelp s.disable_help_subcommand (long_or_other s.rules waiting word o h).1
  flags_good waiting word (Some p) h none all =
      after_good waiting word (long_met s.rules (arg_by_long s.rules p.0) p.1 h).0 (long_met s.rules (arg_by_long s.rules p.0) p.1 h).1
      (long_good s.rules s.args_override_self fits (arg_by_long s.rules p.0) p.1 h (λ a e. find_each (Fits s.rules) _ s.rules a fits e) none all)
  flags_good waiting word None h none all = go (short_of word) none
    where
      go : (o : Option Text) → option_map_or (λ flags. bundle_fault s.rules s.args_override_self flags h) o [] ≡ []
          → Good s.rules (short_or_plain s.rules waiting word o h).0 × IsNoHelp s.disable_help_subcommand (short_or_plain s.rules waiting word o h).1
      go None n = plain_good waiting word h all
      go (Some flags) n =
          after_good waiting word (bundle s.rules flags h).0 (bundle s.rules flags h).1
          (bundle_good s.rules s.args_override_self fits (length flags) flags h.skip plain (record h { skip = 0 }) n all)

  other_good : (waiting : Waiting) (position : ℕ) (word : Text) (o : Option Text) (h : Held) → other_fault s o word h ≡ [] → Good s.rules h
      → Good s.rules (subcommand_or_other s.rules o waiting position word h).0 × IsNoHelp s.disable_help_subcommand (subcommand_or_other s.rules o waiting position word h).1
  other_good waiting position word (Some name) h none all = (all, go (bytes_eq name (codes "help") && not s.disable_help_subcommand) none)
    where
      go : (b : Bool) → cond b (ErrorKind.DisplayHelp ∷ ErrorKind.InvalidSubcommand ∷ []) [] ≡ [] → b ≡ false
      go true n = cc
      go false n = refl
  other_good waiting position word None h none all = go (bytes_eq word (45 ∷ 45 ∷ [])) none
    where
      go : (b : Bool) → cond b [] (flag_word_fault s.rules s.args_override_self (long_of word) word h) ≡ []
          → Good s.rules (cond b (h, trailing position) (long_or_other s.rules waiting word (long_of word) h)).0
          × IsNoHelp s.disable_help_subcommand (cond b (h, trailing position) (long_or_other s.rules waiting word (long_of word) h)).1
      go true n = (all, tt)
      go false n = flags_good waiting word (long_of word) h n all

  word_good : (is_trailing : Bool) (waiting : Waiting) (position : ℕ) (word : Text) (h : Held) → word_fault s names is_trailing waiting word h ≡ [] → Good s.rules h
      → Good s.rules (word_met s.rules names is_trailing waiting position word h).0 × IsNoHelp s.disable_help_subcommand (word_met s.rules names is_trailing waiting position word h).1
  word_good true waiting position word h none all = (all, tt)
  word_good false waiting position word h none all = other_good waiting position word (subcommand_met names waiting word) h none all

  step_good : (w : Walk) (word : Text) (h : Held) (x : Step) → step_fault s w.position h x ≡ [] → Good s.rules h → IsNoHelp s.disable_help_subcommand x
      → StopsAtNoHelp s.disable_help_subcommand w.stopped
      → Good s.rules (after_step s.rules word w h x).held × StopsAtNoHelp s.disable_help_subcommand (after_step s.rules word w h x).stopped
  step_good w word h (next waiting) none all free stop = (all, stop)
  step_good w word h (trailing position) none all free stop = (all, stop)
  step_good w word h (subcommand name) none all free stop = (all, free)
  step_good w word h value none all free stop = go (arg_by_index s.rules w.position) none
    where
      go : (o : Option Rule) → option_map_or (λ a. positional_fault s.rules s.args_override_self a h) o (stray_fault s) ≡ []
          → Good s.rules (to_positional s.rules o word w h).held × StopsAtNoHelp s.disable_help_subcommand (to_positional s.rules o word w h).stopped
      go None n = (all, stop)
      go (Some a) n = (here (is_pending a h.pending && takes_several a) n, tt)
        where
          here : (b : Bool) → cond b [] (settle_fault s.rules s.args_override_self h) ≡ [] → Good s.rules (cond b h (settled s.rules h))
          here true n = all
          here false n = settled_good s.rules s.args_override_self fits h n all

  turn_good : (w : Walk) (word : Text) → turn_fault s names w word ≡ [] → Good s.rules w.held → StopsAtNoHelp s.disable_help_subcommand w.stopped
      → Good s.rules (walked s.rules names w word).held × StopsAtNoHelp s.disable_help_subcommand (walked s.rules names w word).stopped
  unfolding walked
  turn_good w word none all stop = go w.stopped none stop
    where
      met : Held × Step
      met = word_met s.rules names w.is_trailing w.waiting w.position word w.held

      go : (p : Option (Text × List Text)) → cond (is_some p) [] (or_else (word_fault s names w.is_trailing w.waiting word w.held) (step_fault s w.position met.0 met.1)) ≡ []
          → StopsAtNoHelp s.disable_help_subcommand p
          → Good s.rules (walked_from s.rules names p w word).held × StopsAtNoHelp s.disable_help_subcommand (walked_from s.rules names p w word).stopped
      go (Some p) n free = (all, free)
      go None n free =
          let p = or_none (word_fault s names w.is_trailing w.waiting word w.held) _ n in
          let q = word_good w.is_trailing w.waiting w.position word w.held p.0 all in
          step_good w word met.0 met.1 p.1 q.0 q.1 stop

  pub walk_good : (w : Walk) (words : List Text) → walk_fault s names w words ≡ [] → Good s.rules w.held → StopsAtNoHelp s.disable_help_subcommand w.stopped
      → Good s.rules (fold (walked s.rules names) w words).held × StopsAtNoHelp s.disable_help_subcommand (fold (walked s.rules names) w words).stopped
  unfolding walk_fault
  walk_good w [] none all stop = (all, stop)
  walk_good w (x ∷ xs) none all stop =
      let p = or_none (turn_fault s names w x) _ none in
      let q = turn_good w x p.0 all stop in
      walk_good (walked s.rules names w x) xs p.1 q.0 q.1

-- ---- after the arguments

default_good : (c : List Rule) (a : Rule) (rows : List Row) → Fits c a → Each (IsGood c) rows → Each (IsGood c) (with_default rows a)
default_good c a rows fit all = go (has_row a.id rows)
  where
    given : (vs : List Text) → values_pass a vs ≡ true → Each (IsGood c) (default_rows a.id (reading_by a) vs rows)
    given [] e = all
    given (v ∷ vs) e = with_good c a _ (v ∷ vs) rows fit.0 tt e all

    go : (b : Bool) → Each (IsGood c) (cond b rows (default_rows a.id (reading_by a) a.defaults rows))
    go true = all
    go false = given a.defaults fit.3

defaults_good : (c xs : List Rule) (rows : List Row) → Each (Fits c) xs → Each (IsGood c) rows → Each (IsGood c) (fold with_default rows xs)
defaults_good c [] rows fits all = all
defaults_good c (x ∷ xs) rows fits all = defaults_good c xs (with_default rows x) fits.1 (default_good c x rows fits.0 all)

-- the argument is one of these, is required, and has this parser
abbrev pub Wants : List Rule → Text → ValueParser → Type 0
Wants c id p = (a : Rule) × (arg_by_id c id ≡ Some a) × (a.id ≡ id) × (a.required ≡ true) × (a.ignore_case ≡ false) × (parser_of_value a.parser ≡ p)

row_gives : (c : List Rule) (rows : List Row) (id : Text) (a : Rule) (r : Row) → find (λ r. bytes_eq r.id id) rows ≡ Some r → arg_by_id c id ≡ Some a → a.ignore_case ≡ false
    → r.id ≡ id → IsGood c r → IsGiven (parser_of_value a.parser) id rows
row_gives c rows id a r found only exact same good = go r.values refl good.0
  where
    facts : (values_pass a r.values ≡ true) × (r.reading ≡ reading_by a)
    facts = good.1 a (subst (λ (t : Text). arg_by_id c t ≡ Some a) (sym same) only)

    go : (vs : List Text) → r.values ≡ vs → IsFull vs → IsGiven (parser_of_value a.parser) id rows
    go [] e full = absurd full
    go (v ∷ vs) e full =
        let passes : (value_passes a v && values_pass a vs) ≡ true = subst (λ (xs : List Text). values_pass a xs ≡ true) e facts.0 in
        let takes = accepts-Accepts a.ignore_case (parser_of_value a.parser) v (both _ _ passes).0 in
        (v, rw (found, e) refl, rw (found, e, facts.1) refl, subst (λ (b : Bool). Accepts b (parser_of_value a.parser) v) exact takes)

checks_none : (a b d : Bool) → check_kinds a b d ≡ [] → (b ≡ false) × (d ≡ false)
checks_none true b d e = cc
checks_none false true d e = cc
checks_none false false true e = cc
checks_none false false false e = (refl, refl)

lacks_none : (n h l : Bool) → n ≡ false → (not (n && h) && l) ≡ false → l ≡ false
lacks_none true h l n e = absurd (true≢false n)
lacks_none false h l n e = e

was_given : (r g : Bool) → r ≡ true → (r && not g) ≡ false → g ≡ true
was_given true true r e = refl
was_given true false r e = absurd (true≢false e)
was_given false g r e = absurd (true≢false (sym r))

given_row : (c : List Rule) (id : Text) (rows : List Row) → is_given id rows ≡ true → Each (IsGood c) rows
    → (r : Row) × (find (λ x. bytes_eq x.id id) rows ≡ Some r) × (r.id ≡ id) × IsGood c r
given_row c id rows given all = go (find (λ x. bytes_eq x.id id) rows) refl given
  where
    go : (o : Option Row) → find (λ x. bytes_eq x.id id) rows ≡ o → option_map_or (λ x. explicit_source x.source) o false ≡ true
        → (r : Row) × (find (λ x. bytes_eq x.id id) rows ≡ Some r) × (r.id ≡ id) × IsGood c r
    go None e n = absurd (true≢false (sym n))
    go (Some r) e n = (r, e, (bytes_eq-Decides r.id id).0 (find_passes _ rows r e), find_each (IsGood c) _ rows r all e)

-- a required argument of a level that has no fault is given
pub level_gives : (s : Shape) (names : Names) (words : List Text) (has : Bool) (below : Kinds) (id : Text) (p : ValueParser) → Each (Fits s.rules) s.rules
    → s.subcommand_negates_reqs ≡ false → level_fault s names nothing_held words has below ≡ [] → Wants s.rules id p → IsGiven p id (rows_after s.rules names words)
level_gives s names words has below id p fits negates none wants =
    let end = (walk s.rules names nothing_held words).held in
    let a = wants.0 in
    let rows = finished s.rules end in
    let q = or_none (walk_fault s names (walk_from nothing_held) words) _ none in
    let r = or_none below _ q.1 in
    let t = or_none (settle_fault s.rules s.args_override_self end) _ r.1 in
    let u = or_none (defaults_fault (settled s.rules end).rows s.rules) _ t.1 in
    let good = walk_good s names fits (walk_from nothing_held) words q.0 tt tt in
    let all = defaults_good s.rules s.rules (settled s.rules end).rows fits (settled_good s.rules s.args_override_self fits end t.0 good.0) in
    let lacks = lacks_none s.subcommand_negates_reqs has _ negates (checks_none _ _ _ u.1).1 in
    let asked = none_any _ (λ b. b.required && not (is_given b.id rows)) s.rules a wants.1 lacks in
    let is : is_given id rows ≡ true = subst (λ (x : Text). is_given x rows ≡ true) wants.2 (was_given a.required (is_given a.id rows) wants.3 asked) in
    let row = given_row s.rules id rows is all in
    subst (λ (x : ValueParser). IsGiven x id rows) wants.5 (row_gives s.rules rows id a row.0 row.1 wants.1 wants.4 row.2 row.3)

-- the subcommand of arguments without a fault
pub record Enters (subs : List Shape) (d : Bool) (m : Option (Text × List Row)) : Type 0 where
  pub shape : Shape
  pub words : List Text
  pub met : Text
  pub is : m ≡ Some (shape.name, rows_after shape.rules [] words)
  pub found : find (λ s. answers_to met (label_of s)) subs ≡ Some shape
  pub free : (bytes_eq met (codes "help") && not d) ≡ false
  pub none : level_fault shape [] nothing_held words false [] ≡ []

-- arguments without a fault have a subcommand, if one is required
pub enters : (a : App) (words : List Text) → Each (Fits (built a).top.rules) (built a).top.rules → (built a).top.subcommand_required ≡ true → fault_of a words ≡ []
    → Enters (built a).subs (built a).top.disable_help_subcommand (subcommand_of a words)
enters a words fits required none =
    let b = built a in
    let ws = argument_words a words in
    let end = walk b.top.rules (names_of b) nothing_held ws in
    let q = or_none (walk_fault b.top (names_of b) (walk_from nothing_held) ws) _ none in
    let r = or_none (entered_fault b end.stopped) _ q.1 in
    let t = or_none (settle_fault b.top.rules b.top.args_override_self end.held) _ r.1 in
    let u = or_none (defaults_fault (settled b.top.rules end.held).rows b.top.rules) _ t.1 in
    let good = walk_good b.top (names_of b) fits (walk_from nothing_held) ws q.0 tt tt in
    at_stop end.stopped (needs (is_some (entered b end.stopped)) b.top.subcommand_required required (checks_none _ _ _ u.1).0) r.0 good.1
  where
    needs : (h r : Bool) → r ≡ true → (not h && r) ≡ false → h ≡ true
    needs true r e n = refl
    needs false r e n = absurd (true≢false (sym e ∙ n))

    at_stop : (o : Option (Text × List Text)) → is_some (entered (built a) o) ≡ true → entered_fault (built a) o ≡ [] → StopsAtNoHelp (built a).top.disable_help_subcommand o
        → Enters (built a).subs (built a).top.disable_help_subcommand (entered (built a) o)
    at_stop None some none free = absurd (true≢false (sym some))
    at_stop (Some p) some none free = at_sub (find (λ s. answers_to p.0 (label_of s)) (built a).subs) refl some none
      where
        at_sub : (o : Option Shape) → find (λ s. answers_to p.0 (label_of s)) (built a).subs ≡ o → is_some (option_map (λ s. rows_at s p.1) o) ≡ true
            → option_map_or (λ s. level_fault s [] nothing_held p.1 false []) o [] ≡ []
            → Enters (built a).subs (built a).top.disable_help_subcommand (option_map (λ s. rows_at s p.1) o)
        at_sub None e some none = absurd (true≢false (sym some))
        at_sub (Some s) e some none = record { shape = s; words = p.1; met = p.0; is = refl; found = e; free = free; none = none }

abbrev pub When : Bool → Type 0 → Type 0
When true A = A
When false A = ⊤

when_true : (b : Bool) (A : Type 0) → b ≡ true → When b A → A
when_true true A e x = x
when_true false A e x = absurd (true≢false (sym e))

-- the subcommand requires the argument, and each of its arguments fits (`Fits`)
abbrev pub Needs : Text → ValueParser → Shape → Type 0
Needs id p s = Each (Fits s.rules) s.rules × (s.subcommand_negates_reqs ≡ false) × Wants s.rules id p

-- what a subcommand with such a name requires is given
pub entered_gives : (subs : List Shape) (d : Bool) (m : Text × List Row) (q : Text → Bool) (id : Text) (p : ValueParser)
    → Each (λ s. When (q s.name) (Needs id p s)) subs → Enters subs d (Some m) → q m.0 ≡ true → IsGiven p id m.1
entered_gives subs d m q id p needs enters is =
    let s = enters.shape in
    let same : Some m ≡ Some (s.name, rows_after s.rules [] enters.words) = enters.is in
    let m_is : m ≡ (s.name, rows_after s.rules [] enters.words) = ap (λ o. option_map_or (λ z. z) o m) same in
    let named : q s.name ≡ true = subst (λ (t : Text). q t ≡ true) (ap (λ (z : Text × List Row). z.0) m_is) is in
    let need = when_true (q s.name) (Needs id p s) named (find_each (λ x. When (q x.name) (Needs id p x)) _ subs s needs enters.found) in
    subst (λ (z : Text × List Row). IsGiven p id z.1) (sym m_is) (level_gives s [] enters.words false [] id p need.0 need.1 enters.none need.2)

-- the subcommand is one of these, and not `help`
pub entered_named : (subs : List Shape) (m : Text × List Row) (p : Text → Bool) → Each (λ s. s.aliases ≡ []) subs → Each (λ s. (p s.name || bytes_eq s.name (codes "help")) ≡ true) subs
    → Enters subs false (Some m) → p m.0 ≡ true
entered_named subs m p plain_names ones enters =
    let s = enters.shape in
    let same : Some m ≡ Some (s.name, rows_after s.rules [] enters.words) = enters.is in
    let m_is : m ≡ (s.name, rows_after s.rules [] enters.words) = ap (λ o. option_map_or (λ z. z) o m) same in
    let bare : s.aliases ≡ [] = find_each (λ x. x.aliases ≡ []) _ subs s plain_names enters.found in
    let one = find_each (λ x. (p x.name || bytes_eq x.name (codes "help")) ≡ true) _ subs s ones enters.found in
    let answers : answers_to enters.met (label_of s) ≡ true = find_passes _ subs s enters.found in
    let named : s.name ≡ enters.met = (bytes_eq-Decides s.name enters.met).0 (first_or _ _ answers (rw bare refl)) in
    let free : bytes_eq s.name (codes "help") ≡ false = subst (λ (t : Text). bytes_eq t (codes "help") ≡ false) (sym named) (both_false _ enters.free) in
    subst (λ (q : Text × List Row). p q.0 ≡ true) (sym m_is) (first_or (p s.name) _ one free)
  where
    first_or : (a b : Bool) → (a || b) ≡ true → b ≡ false → a ≡ true
    first_or true b e n = refl
    first_or false b e n = absurd (true≢false (sym e ∙ n))

    both_false : (a : Bool) → (a && true) ≡ false → a ≡ false
    both_false true e = e
    both_false false e = refl
