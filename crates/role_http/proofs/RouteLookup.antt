-- What the router of the one route finds.
use Rattle.std.proofs.Common.{◌≡◌, ◌<◌, ◌∙◌, ◌-◌, ℕ, zero, suc, List, [], ◌∷◌, ◌++◌, true, false, cond, ◌⊎◌, length, Option, Some, None, ap, subst, refl, sym, rules, arith, inl, inr, codes}
use Rattle.std.specs.Prelude.{◌&&◌, ◌==◌, not, option_and_then, option_map, ltb, leb}
use Rattle.std.specs.List.{list_any, list_all}
use Rattle.std.proofs.lemmas.Bool.{cases_Bool, and_parts, not-true, eqb-true, false_from_ne_true}
use Rattle.matchit.specs.Rows.{RowsOf, param_token, catch_all_token}
use Rattle.matchit.specs.Seek.{seek, step, own, or_else, first, has_slash, param_step}
use Rattle.matchit.specs.Params as params
use Rattle.std.proofs.Math.Seq.{take-length}
use Rattle.matchit.specs.Params.{next_at, walk, named, AllText}
use Rattle.std.specs.Str.{IsUtf8, is_utf8}
use Rattle.std.proofs.lemmas.Str.{IsUtf8-past_char, IsUtf8-from_ascii, IsUtf8-from_is_utf8, is_utf8-from_IsUtf8, encode_ascii}
use Rattle.matchit.specs.Router.{RouteOf}
use Rattle.role_functions.specs.Function.{function_named}
use Rattle.role_http.specs.Route.{after, function_in, one_part, part_of, route, routes, slash}

slash-any : (path : List ℕ) → has_slash path ≡ list_any (λ byte. byte == slash) path
slash-any [] = refl
slash-any (b ∷ path) =
    elim (cases_Bool (b == slash)) [
      | inl same ↦ rw same refl
      | inr other ↦ rw other (slash-any path)
    ]

one_less : (n : ℕ) → suc n - 1 ≡ n
one_less n = omega arith

module _ {K : Type 0} where
  or_else-none : (found : Option K) → or_else found None ≡ found
  or_else-none None = refl
  or_else-none (Some key) = refl

  -- with no rows there is no route
  seek-none : (skip : ℕ) (path : List ℕ) → seek {K = K} skip [] path ≡ None
  unfolding seek param_step
  seek-none skip [] = refl
  seek-none (suc skip) (b ∷ path) = seek-none skip path
  seek-none zero (b ∷ path) =
      elim (cases_Bool (has_slash (b ∷ path))) [
        | inl some ↦ rw (some, seek-none 0 path) refl
        | inr none ↦ rw (none, one_less (length path), seek-none 0 path, seek-none (length path) path) refl
      ]

  seek-no_param : (b : ℕ) (path : List ℕ) → seek {K = K} ((param_step {K = K} [] (b ∷ path)).0 - 1) (param_step {K = K} [] (b ∷ path)).1 path ≡ None
  unfolding param_step
  seek-no_param b path =
      elim (cases_Bool (has_slash (b ∷ path))) [
        | inl some ↦ rw some (seek-none 0 path)
        | inr none ↦ rw (none, one_less (length path)) (seek-none (length path) path)
      ]

  -- a byte of the route
  seek-byte : (x : ℕ) (t : List ℕ) (key : K) (b : ℕ) (path : List ℕ) → (x == param_token) ≡ false → (x == catch_all_token) ≡ false
      → seek 0 ((x ∷ t, key) ∷ []) (b ∷ path) ≡ cond (x == b) (seek 0 ((t, key) ∷ []) path) None
  unfolding seek
  seek-byte x t key b path not_param not_all =
      rw (not_param, not_all, seek-no_param b path) (elim (cases_Bool (x == b)) [
        | inl same ↦ rw same (or_else-none (seek 0 ((t, key) ∷ []) path))
        | inr other ↦ rw (other, seek-none 0 path) refl
      ])

  -- bytes of the route
  seek-start : (start t : List ℕ) (key : K) (path : List ℕ) → list_all (λ x. not (x == param_token) && not (x == catch_all_token)) start ≡ true
      → seek 0 ((start ++ t, key) ∷ []) path ≡ option_and_then (seek 0 ((t, key) ∷ [])) (after start path)
  unfolding seek
  seek-start [] t key path bytes = refl
  seek-start (x ∷ start) t key [] bytes = refl
  seek-start (x ∷ start) t key (b ∷ path) bytes =
      let (here, later) = and_parts (not (x == param_token) && not (x == catch_all_token)) (list_all (λ y. not (y == param_token) && not (y == catch_all_token)) start) bytes in
      let (not_param, not_all) = and_parts (not (x == param_token)) (not (x == catch_all_token)) here in
      seek-byte x (start ++ t) key b path (not-true (x == param_token) not_param) (not-true (x == catch_all_token) not_all)
      ∙ (elim (cases_Bool (x == b)) [
        | inl same ↦ rw same (seek-start start t key path later)
        | inr other ↦ rw other refl
      ])

  -- the whole rest is skipped
  seek-over : (rows : RowsOf K) (path : List ℕ) → seek (length path) rows path ≡ own rows
  unfolding seek
  seek-over rows [] = refl
  seek-over rows (b ∷ path) = seek-over rows path

  -- a path that goes on after the end of the route
  seek-past : (key : K) (b : ℕ) (path : List ℕ) → seek 0 (([], key) ∷ []) (b ∷ path) ≡ None
  unfolding seek
  seek-past key b path = rw (seek-none 0 path, seek-no_param b path) refl

  -- the parameter decides what is found, whether or not the key is found before
  seek-part : (key : K) (b : ℕ) (rest : List ℕ) (before : Option K) → (before ≡ None) ⊎ ((before ≡ Some key) × (has_slash (b ∷ rest) ≡ false))
      → or_else before (or_else (seek ((param_step (([], key) ∷ []) (b ∷ rest)).0 - 1) (param_step (([], key) ∷ []) (b ∷ rest)).1 rest) None) ≡ option_map (λ part. key) (one_part (b ∷ rest))
  unfolding param_step
  seek-part key b rest before (inl none) =
      elim (cases_Bool (has_slash (b ∷ rest))) [
        | inl some ↦ rw (none, some, ← slash-any (b ∷ rest), some, seek-none 0 rest) refl
        | inr clear ↦ rw (none, clear, ← slash-any (b ∷ rest), clear, one_less (length rest), seek-over (([], key) ∷ []) rest) refl
      ]
  seek-part key b rest before (inr found) = rw (found.0, ← slash-any (b ∷ rest), found.1) refl

  -- the parameter
  pub seek-param : (key : K) (path : List ℕ) → seek 0 ((param_token ∷ [], key) ∷ []) path ≡ option_map (λ part. key) (one_part path)
  unfolding seek
  seek-param key [] = refl
  seek-param key (b ∷ rest) = seek-part key b rest (seek 0 (step b ((param_token ∷ [], key) ∷ [])) rest) (before b rest)
    where
      before : (b : ℕ) (rest : List ℕ) → (seek 0 (step b ((param_token ∷ [], key) ∷ [])) rest ≡ None)
          ⊎ ((seek 0 (step b ((param_token ∷ [], key) ∷ [])) rest ≡ Some key) × (has_slash (b ∷ rest) ≡ false))
      before b [] =
          elim (cases_Bool (param_token == b)) [
            | inl same ↦ let is : param_token ≡ b = eqb-true param_token b same in inr (rw (← is) (refl, refl))
            | inr other ↦ inl (rw other refl)
          ]
      before b (c ∷ rest) =
          elim (cases_Bool (param_token == b)) [
            | inl same ↦ inl (rw same (seek-past key c rest))
            | inr other ↦ inl (rw other (seek-none 0 (c ∷ rest)))
          ]

-- what the router finds
pub first-route : (path : List ℕ) → first routes path ≡ option_map (λ part. route) (part_of path)
unfolding part_of
first-route path = seek-start (codes "/v1/") (param_token ∷ []) route path refl ∙ by (after (codes "/v1/") path)
  where
    by : (o : Option (List ℕ)) → option_and_then (seek 0 ((param_token ∷ [], route) ∷ [])) o ≡ option_map (λ part. route) (option_and_then one_part o)
    by None = refl
    by (Some rest) = seek-param route rest

-- a text that begins with a prefix is the prefix and the rest
after-rest : (start text rest : List ℕ) → after start text ≡ Some rest → text ≡ start ++ rest
after-rest [] text rest e = cc
after-rest (x ∷ start) [] rest e = let no : ⊥ = cc e in absurd no
after-rest (x ∷ start) (b ∷ text) rest e =
    elim (cases_Bool (x == b)) [
      | inl same ↦
          let is : x ≡ b = eqb-true x b same in
          let later : after start text ≡ Some rest = rw same at e in
          rw (is, after-rest start text rest later) refl
      | inr other ↦ let no : ⊥ = (let r = rw other at e in cc) in absurd no
    ]

one_part-itself : (rest part : List ℕ) → one_part rest ≡ Some part → rest ≡ part
one_part-itself [] part e = let no : ⊥ = cc e in absurd no
one_part-itself (b ∷ rest) part e =
    elim (cases_Bool (list_any (λ c. c == slash) (b ∷ rest))) [
      | inl some ↦ let no : ⊥ = (let r = rw some at e in cc) in absurd no
      | inr none ↦ let r = rw none at e in cc
    ]

-- a target with a part is `/v1/` and that part
pub part-rest : (path part : List ℕ) → part_of path ≡ Some part → path ≡ codes "/v1/" ++ part
unfolding part_of
part-rest path part e = by (after (codes "/v1/") path) refl e
  where
    by : (o : Option (List ℕ)) → after (codes "/v1/") path ≡ o → option_and_then one_part o ≡ Some part → path ≡ codes "/v1/" ++ part
    by None is f = let no : ⊥ = cc f in absurd no
    by (Some rest) is f = after-rest (codes "/v1/") path rest is ∙ ap (λ z. codes "/v1/" ++ z) (one_part-itself rest part f)

fourth : (n : ℕ) → next_at (suc (suc (suc (suc n)))) (next_at (suc (suc (suc (suc n)))) (next_at (suc (suc (suc (suc n)))) (next_at (suc (suc (suc (suc n)))) 0))) ≡ 4
fourth n =
    let a : ltb 0 (suc (suc (suc (suc n)))) ≡ true = search rules in
    let b : ltb 1 (suc (suc (suc (suc n)))) ≡ true = search rules in
    let d : ltb 2 (suc (suc (suc (suc n)))) ≡ true = search rules in
    let e : ltb 3 (suc (suc (suc (suc n)))) ≡ true = search rules in
    rw (a, b, d, e) refl

whole : (part : List ℕ) → params.part_of (47 ∷ 118 ∷ 49 ∷ 47 ∷ part) 4 (suc (suc (suc (suc (length part))))) ≡ part
whole part =
    let a : leb 4 (suc (suc (suc (suc (length part))))) ≡ true = search rules in
    let b : leb (suc (suc (suc (suc (length part))))) (suc (suc (suc (suc (length part))))) ≡ true = search rules in
    let d : suc (suc (suc (suc (length part)))) - 4 ≡ length part = omega arith in
    rw (a, b, d) (take-length part)

-- the value of the parameter of the route
pub walk-part : (part : List ℕ) → walk route.pattern route.text (codes "/v1/" ++ part) route.names 0 0 ≡ (codes "function", part) ∷ []
walk-part part = rw (fourth (length part)) (ap (λ (z : List ℕ). (codes "function", z) ∷ []) (whole part))

-- what follows an ASCII character in a UTF-8 text is UTF-8
text-past : (c : ℕ) (rest : List ℕ) → c < 128 → IsUtf8 (c ∷ rest) → IsUtf8 rest
text-past c rest h text = IsUtf8-past_char (c ∷ rest) rest c text (ap (λ z. z ++ rest) (sym (encode_ascii c h)))

-- the part is UTF-8 if the target is
pub part-text : (part : List ℕ) → IsUtf8 (codes "/v1/" ++ part) → IsUtf8 part
part-text part text =
    text-past 47 part (omega arith) (text-past 49 (codes "/" ++ part) (omega arith) (text-past 118 (codes "1/" ++ part) (omega arith) (text-past 47 (codes "v1/" ++ part) (omega arith) text)))

-- ---- the function of a target

pub function_in-other : (target : List ℕ) → (IsUtf8 target → ⊥) → function_in target ≡ None
unfolding function_in
function_in-other target other = rw (false_from_ne_true (is_utf8 target) (λ good. other (IsUtf8-from_is_utf8 target good))) refl

-- no route, no function
pub function_in-unrouted : (target : List ℕ) → IsUtf8 target → first routes target ≡ None → function_in target ≡ None
unfolding function_in
function_in-unrouted target text none = rw (is_utf8-from_IsUtf8 target text) (by (part_of target) refl (sym (first-route target) ∙ none))
  where
    by : (o : Option (List ℕ)) → part_of target ≡ o → option_map (λ part. route) o ≡ None → option_and_then function_named (part_of target) ≡ None
    by None is e = rw is refl
    by (Some part) is e = let no : ⊥ = cc e in absurd no

-- the value of the parameter `function` of a route that was found
pub record RouteParameter (target : List ℕ) (found : RouteOf (Unit {0})) (path : List ℕ) : Type 0 where
  pub part : List ℕ
  pub function : function_in target ≡ function_named part
  pub named_part : named (codes "function") (walk found.pattern found.text path found.names 0 0) ≡ Some part
  pub all_text : AllText (walk found.pattern found.text path found.names 0 0)

took-route : (target part : List ℕ) → IsUtf8 target → part_of target ≡ Some part → target ≡ codes "/v1/" ++ part → RouteParameter target route (codes "/v1/" ++ part)
unfolding function_in
took-route target part text is rest = record {
  part = part;
  function = rw (is_utf8-from_IsUtf8 target text, is) refl;
  named_part = ap (named (codes "function")) (walk-part part);
  all_text = subst AllText (sym (walk-part part)) (IsUtf8-from_ascii (codes "function") (search rules), part-text part (subst IsUtf8 rest text), tt);
}

pub took : (target : List ℕ) (found : RouteOf (Unit {0})) (path : List ℕ) → IsUtf8 target → first routes target ≡ Some found → path ≡ target → RouteParameter target found path
took target found path text is same = by (part_of target) refl (sym (first-route target) ∙ is)
  where
    by : (o : Option (List ℕ)) → part_of target ≡ o → option_map (λ part. route) o ≡ Some found → RouteParameter target found path
    by None e f = let no : ⊥ = cc f in absurd no
    by (Some part) e f =
        let is_route : route ≡ found = cc f in
        let rest : target ≡ codes "/v1/" ++ part = part-rest target part e in
        subst (λ r. RouteParameter target r path) is_route (subst (λ p. RouteParameter target route p) (sym (same ∙ rest)) (took-route target part text e rest))
