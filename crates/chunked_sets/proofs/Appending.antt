-- One entry more in the last chunk, and the entry at a place in all chunks.
use Rattle.std.proofs.Common.{◌≡◌, ℕ, suc, ◌+◌, ◌<◌, List, [], ◌∷◌, ◌++◌, length, take, drop, get_or, set, sym, ap, subst, ◌∙◌, arith, append_assoc}
use Rattle.std.specs.declared.vec.Vec.{Vec}
use Rattle.std.proofs.lemmas.List.{append-nil, drop_all, get_or_read}
use Rattle.chunked_sets.specs.Chunks.{entries_of}
use Rattle.chunked_sets.proofs.ChunkLists.{entries_set}
use Rattle.chunked_sets.proofs.Inserting.{parts_of}
use Rattle.chunked_sets.proofs.Omitting.{holds_there}

module _ {K Z : Type 0} (chunks : List (Vec K Z)) where
  pub appended : (at : ℕ) (v w : Vec K Z) (x : K) → suc at ≡ length chunks → v ≡ get_or chunks at v → w.items ≡ v.items ++ x ∷ [] → entries_of (set chunks at w) ≡ entries_of chunks ++ x ∷ []
  appended at v w x last there more =
      let front = entries_of (take at chunks) in
      let within : at < length chunks = omega arith in
      let nothing : drop (suc at) chunks ≡ [] = drop_all (suc at) chunks (omega arith) in
      let old : entries_of chunks ≡ front ++ v.items = parts_of chunks at v within there ∙ ap (λ l. front ++ (v.items ++ entries_of l)) nothing ∙ ap (λ l. front ++ l) (append-nil v.items) in
      entries_set chunks at w within ∙ ap (λ l. front ++ (w.items ++ entries_of l)) nothing ∙ ap (λ l. front ++ l) (append-nil w.items ∙ more)
      ∙ sym (append_assoc front v.items (x ∷ [])) ∙ ap (λ l. l ++ x ∷ []) (sym old)

  pub there_in_all : (at : ℕ) (v : Vec K Z) (j n : ℕ) (r : K) → at < length chunks → v ≡ get_or chunks at v → j < length v.items → n ≡ j + length (entries_of (take at chunks))
      → r ≡ get_or v.items j r → r ≡ get_or (entries_of chunks) n r
  there_in_all at v j n r within there inside is read =
      let same : length (entries_of (take at chunks)) + j ≡ n = omega arith in
      subst (λ m. r ≡ get_or (entries_of chunks) m r) same (holds_there chunks at v j within there inside (λ y. r ≡ y) (λ d. get_or_read v.items j r inside read d) r)
