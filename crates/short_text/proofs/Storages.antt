-- A text that is followed by zeros.
use Rattle.std.proofs.Common.{◌≡◌, ℕ, zero, suc, ◌+◌, ◌*◌, ◌^◌, ◌≤◌, List, [], ◌∷◌, ◌++◌, length, take, replicate, refl, sym, ap, ◌∙◌, arith}
use Rattle.std.proofs.lemmas.List.{take-append-le, take_all}
use Rattle.std.proofs.lemmas.Str.{is_utf8-from_IsUtf8}
use Rattle.std.specs.Str.{IsUtf8, is_utf8}
use Rattle.short_text.specs.declared.short_text.Storage.{Storage}
use Rattle.short_text.specs.Front.{first_bytes}
use Rattle.short_text.specs.Storages.{bytes_of}
use Rattle.short_text.specs.private.Texts.{front_of, len_of, IsText}

-- the number of zeros is zero
first_bytes-replicate : (n k : ℕ) → first_bytes n (replicate k 0) ≡ 0
first_bytes-replicate zero k = refl
first_bytes-replicate (suc n) zero = refl
first_bytes-replicate (suc n) (suc k) =
    let rest = first_bytes-replicate n k in
    omega arith

-- zeros after a text leave the number of its first bytes
pub first_bytes-append : (n k : ℕ) (text : List ℕ) → first_bytes n (text ++ replicate k 0) ≡ first_bytes n text
first_bytes-append zero k text = refl
first_bytes-append (suc n) k [] = first_bytes-replicate (suc n) k
first_bytes-append (suc n) k (byte ∷ rest) = ap (λ (m : ℕ). byte * 256 ^ n + m) (first_bytes-append n k rest)

-- the first bytes, as many as the text has, are the text
pub take-length : (text rest : List ℕ) → take (length text) (text ++ rest) ≡ text
take-length text rest = take-append-le (length text) text rest (omega arith) ∙ take_all (length text) text (omega arith)

-- a storage of a text, with its length and the number of its first bytes
pub is_text : (storage : Storage) (text : List ℕ) → bytes_of storage ≡ text → len_of storage ≡ length text → front_of storage ≡ first_bytes 8 text → length text ≤ 64 → IsUtf8 text → IsText storage
is_text storage text bytes len front short utf8 = record {
  len = ap length bytes ∙ sym len;
  short = rw bytes short;
  utf8 = ap is_utf8 bytes ∙ is_utf8-from_IsUtf8 text utf8;
  front = front ∙ sym (ap (first_bytes 8) bytes);
}
