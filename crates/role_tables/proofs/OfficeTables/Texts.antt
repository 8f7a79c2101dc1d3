-- What the texts of the office's statements mean, each by computation.
use Rattle.std.proofs.Common.{◌≡◌, inl, inr, ℕ, ◌+◌, List, [], ◌∷◌, length, false, refl}
use Rattle.sqlite.specs.declared.types.Value.TheVariants.{Null}
use Rattle.sqlite.specs.Schema.{Schema}
use Rattle.sqlite.specs.Term.{Term, lit, col}
use Rattle.sqlite.specs.Source.TheVariants.{Values}
use Rattle.sqlite_tied.specs.Compute.{everything}
use Rattle.sqlite_ast.specs.declared.Expr.{Expr}
use Rattle.sqlite_resolve.specs.Compile.{first}
use Rattle.sqlite_resolve.specs.Lowering.{max_budget}
use Rattle.role_tables.specs.TableByName.{Place, names_of}
use Rattle.role_tables.specs.private.NamedTables.{AreIn}
use Rattle.role_tables.specs.OfficeTables.{StoredTable, Meta, Names, Pairs, Grants, Sets, Locks, making, made, places}
use Rattle.role_tables.specs.private.Texts.{insert_text, delete_text, read_text}
use Rattle.role_tables.proofs.Meanings.ParsedTexts.{column_is}
use Rattle.role_tables.proofs.Meanings.Columns.{Enough}
use Rattle.role_tables.proofs.Meanings.Understood.{in_ok}
use Rattle.role_tables.proofs.Meanings.Inserts.{Inserts}
use Rattle.role_tables.proofs.Meanings.SelectedRows.{IsSelect}
use Rattle.role_tables.proofs.Meanings.ChangedRows.{IsDelete}
use Rattle.sqlite.specs.Kind.TheVariants.{Integer, Text}
use Rattle.sqlite_resolve.specs.Compare.{is_filler}
use Rattle.role_tables.specs.StrictTable.{column_of}
use Rattle.role_tables.proofs.Meanings.Deletes.{where_from, IsOurs, AreOurs}

pub are_in : (kind : StoredTable) (tree : ℕ) → AreIn (made kind tree) (places kind)
unfolding everything
are_in Meta tree = (refl, refl, (refl, refl, tt))
are_in Names tree = (refl, refl, (refl, refl, tt))
are_in Pairs tree = (refl, refl, (refl, refl, (refl, refl, tt)))
are_in Grants tree = (refl, refl, (refl, refl, (refl, refl, tt)))
are_in Sets tree = (refl, refl, (refl, refl, (refl, refl, tt)))
are_in Locks tree = (refl, refl, tt)

pub are_few : (kind : StoredTable) → Enough (length (places kind)) max_budget
are_few Meta = (refl, (refl, tt))
are_few Names = (refl, (refl, tt))
are_few Pairs = (refl, (refl, (refl, tt)))
are_few Grants = (refl, (refl, (refl, tt)))
are_few Sets = (refl, (refl, (refl, tt)))
are_few Locks = (refl, tt)

pub all_is : (kind : StoredTable) → IsSelect (read_text kind) (making kind).name (names_of (places kind))
unfolding first everything
all_is Meta = (refl, refl)
all_is Names = (refl, refl)
all_is Pairs = (refl, refl)
all_is Grants = (refl, refl)
all_is Sets = (refl, refl)
all_is Locks = (refl, refl)

-- the condition of a DELETE, column by column
abbrev pub where_of : List Place → Expr
where_of [] = column_is [] 1
where_of (p ∷ ps) = where_from (column_is p.0 1) 2 (names_of ps)

pub take_is : (kind : StoredTable) → IsDelete (delete_text kind) (making kind).name (where_of (places kind))
unfolding first everything
take_is Meta = (refl, refl)
take_is Names = (refl, refl)
take_is Pairs = (refl, refl)
take_is Grants = (refl, refl)
take_is Sets = (refl, refl)
take_is Locks = (refl, refl)

integers : (name : List ℕ) → is_filler (column_of name Integer) ≡ false → IsOurs (column_of name Integer)
integers name is_named = record { is_strict = refl; collation = refl; is_named = is_named; kind = inl refl }

texts : (name : List ℕ) → is_filler (column_of name Text) ≡ false → IsOurs (column_of name Text)
texts name is_named = record { is_strict = refl; collation = refl; is_named = is_named; kind = inr refl }

pub are_ours : (kind : StoredTable) → AreOurs (places kind)
are_ours Meta = (texts _ refl, (integers _ refl, tt))
are_ours Names = (integers _ refl, (texts _ refl, tt))
are_ours Pairs = (integers _ refl, (texts _ refl, (texts _ refl, tt)))
are_ours Grants = (texts _ refl, (texts _ refl, (texts _ refl, tt)))
are_ours Sets = (integers _ refl, (texts _ refl, (integers _ refl, tt)))
are_ours Locks = (texts _ refl, tt)

-- the parameters, after a rowid that is still to be chosen
abbrev pub given_from : ℕ → List Place → List Term
given_from at [] = []
given_from at (p ∷ ps) = col 0 at ∷ given_from (at + 1) ps

abbrev pub put_terms : StoredTable → List Term
put_terms kind = lit Null ∷ given_from 0 (places kind)

pub put_is : (schema : Schema) (kind : StoredTable) (tree : ℕ) → in_ok (first (insert_text kind)) (Inserts schema (made kind tree) (making kind).name (Values (put_terms kind) (length (places kind) + 1)))
unfolding first everything
put_is schema Meta tree = ((refl, refl), refl)
put_is schema Names tree = ((refl, refl), refl)
put_is schema Pairs tree = ((refl, refl), refl)
put_is schema Grants tree = ((refl, refl), refl)
put_is schema Sets tree = ((refl, refl), refl)
put_is schema Locks tree = ((refl, refl), refl)
