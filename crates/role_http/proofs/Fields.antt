-- The fields of a head, read in order.
use Rattle.std.proofs.Common.{◌≡◌, ◌<◌, ◌≤◌, ◌+◌, ℕ, List, [], ◌∷◌, true, false, length, map, drop, get_or, Option, Some, Ok, Err, refl, add-one}
use Rattle.std.specs.Prelude.{◌&&◌}
use Rattle.std.specs.Str.{str_eq_ignore_ascii_case}
use Rattle.std.proofs.lemmas.List.{drop_all}
use Rattle.std.proofs.Math.Seq.{drop-cons}
use Rattle.httparse.specs.Spans.{header_bytes, span_bytes}
use Rattle.httparse.specs.declared.spans.HeaderSpan.{HeaderSpan}
use Rattle.role_http.specs.HeadChecks.{Field, agrees, has_field, is_length, one_length, values_of}

-- the fields from the i-th on
abbrev pub rest_of : List ℕ → List HeaderSpan → ℕ → List Field
rest_of bytes headers i = map (header_bytes bytes) (drop i headers)

pub rest_of-next : (bytes : List ℕ) (headers : List HeaderSpan) (i : ℕ) (d : HeaderSpan) → i < length headers
    → rest_of bytes headers i ≡ header_bytes bytes (get_or headers i d) ∷ rest_of bytes headers (i + 1)
rest_of-next bytes headers i d h = rw (add-one i, drop-cons headers i d h) refl

pub rest_of-end : (bytes : List ℕ) (headers : List HeaderSpan) (i : ℕ) → length headers ≤ i → rest_of bytes headers i ≡ []
rest_of-end bytes headers i h = rw (drop_all i headers h) refl

-- ---- whether a field has a name

module _ (name bytes : List ℕ) (headers : List HeaderSpan) (i : ℕ) (d : HeaderSpan) (inside : i < length headers) where
  pub has_field-here : str_eq_ignore_ascii_case (span_bytes bytes (get_or headers i d).name) name ≡ true → has_field name (rest_of bytes headers i) ≡ true
  unfolding has_field
  has_field-here same = rw (rest_of-next bytes headers i d inside, same) refl

  pub has_field-later : str_eq_ignore_ascii_case (span_bytes bytes (get_or headers i d).name) name ≡ false → has_field name (rest_of bytes headers i) ≡ has_field name (rest_of bytes headers (i + 1))
  unfolding has_field
  has_field-later other = rw (rest_of-next bytes headers i d inside, other) refl

pub has_field-none : (name bytes : List ℕ) (headers : List HeaderSpan) (i : ℕ) → length headers ≤ i → has_field name (rest_of bytes headers i) ≡ false
unfolding has_field
has_field-none name bytes headers i h = rw (rest_of-end bytes headers i h) refl

-- ---- the one length

module _ (name bytes : List ℕ) (headers : List HeaderSpan) (i : ℕ) (d : HeaderSpan) (inside : i < length headers) (before : Option (List ℕ)) where
  pub one_length-other : str_eq_ignore_ascii_case (span_bytes bytes (get_or headers i d).name) name ≡ false
      → one_length before (values_of name (rest_of bytes headers i)) ≡ one_length before (values_of name (rest_of bytes headers (i + 1)))
  unfolding values_of
  one_length-other other = rw (rest_of-next bytes headers i d inside, other) refl

  pub one_length-more : str_eq_ignore_ascii_case (span_bytes bytes (get_or headers i d).name) name ≡ true → is_length (span_bytes bytes (get_or headers i d).value) ≡ true → agrees before (span_bytes bytes (get_or headers i d).value) ≡ true
      → one_length before (values_of name (rest_of bytes headers i)) ≡ one_length (Some (span_bytes bytes (get_or headers i d).value)) (values_of name (rest_of bytes headers (i + 1)))
  unfolding values_of one_length
  one_length-more same good fits = rw (rest_of-next bytes headers i d inside, same, good, fits) refl

  pub one_length-bad : str_eq_ignore_ascii_case (span_bytes bytes (get_or headers i d).name) name ≡ true → (is_length (span_bytes bytes (get_or headers i d).value) && agrees before (span_bytes bytes (get_or headers i d).value)) ≡ false
      → one_length before (values_of name (rest_of bytes headers i)) ≡ Err 400
  unfolding values_of one_length
  one_length-bad same bad = rw (rest_of-next bytes headers i d inside, same, bad) refl

pub one_length-end : (name bytes : List ℕ) (headers : List HeaderSpan) (i : ℕ) (before : Option (List ℕ)) → length headers ≤ i → one_length before (values_of name (rest_of bytes headers i)) ≡ Ok before
unfolding values_of one_length
one_length-end name bytes headers i before h = rw (rest_of-end bytes headers i h) refl
