-- The bytes that were read so far, and more of them.
use Rattle.std.proofs.Common.{◌≡◌, ℕ, ◌+◌, ◌≤◌, true, false, List, [], ◌∷◌, ◌++◌, length, length-append, Option, refl, sym, ap, subst, ◌∙◌, append_assoc, arith}
use Rattle.std.proofs.lemmas.List.{append-nil}
use Rattle.std.specs.Io.KnownBytes.{Appends}
use Rattle.role_wire.specs.Lines.{longest_line, line_feed, split_lines, ended_lines, is_blank, asking, with_line_feeds}
use Rattle.role_wire.specs.Replay.{AreAnswered}
use Rattle.role_wire.specs.private.ReadProgress.{ReadPosition, HasNoLineFeed, IsOpenLine, IsRead, EndsLine}
use Rattle.rbac_sets.proofs.Known.{Appends-none, Appends-more}
use Rattle.rbac_sets.proofs.Lists.{all_join}
use Rattle.role_wire.proofs.Splitting.{split_lines-ended, ended_lines-ended, HasNoLineFeed-append}
use Rattle.role_wire.proofs.Answering.{asking-append, with_line_feeds-append, AreAnswered-none, AreAnswered-append}

module _ {S : Type 0} (answers : S → List ℕ → List ℕ → S → Type 0) where
  -- a line that asks for no answer
  pub ends_blank : (state : S) (line : List ℕ) (written : Option (List ℕ)) (answered : ℕ) → is_blank line ≡ true → EndsLine answers state line state written written answered answered
  unfolding asking AreAnswered with_line_feeds
  ends_blank state line written answered blank = record {
    texts = [];
    are_answered = rw blank refl;
    text = Appends-none written;
    count = omega arith;
  }

  -- a line that was answered, with a text and LF
  pub ends_answered : (old new : S) (line text answer : List ℕ) (written now_written : Option (List ℕ)) (answered now_answered : ℕ) → is_blank line ≡ false → answers old line text new
      → answer ≡ text ++ line_feed ∷ [] → Appends written now_written answer → now_answered ≡ answered + 1 → EndsLine answers old line new written now_written answered now_answered
  unfolding asking AreAnswered with_line_feeds
  ends_answered old new line text answer written now_written answered now_answered asks is whole appended count = record {
    texts = text ∷ [];
    are_answered = rw asks (new, is, refl);
    text = subst (Appends written now_written) (whole ∙ sym (append-nil (text ++ line_feed ∷ []))) appended;
    count = count;
  }

  -- bytes without LF, which were appended to the open line
  pub read_open : (start now : ReadPosition S) (xs : List ℕ) → HasNoLineFeed xs → HasNoLineFeed start.line → length now.line ≤ longest_line
      → start.state ≡ now.state → now.line ≡ start.line ++ xs → now.number ≡ start.number → now.answered ≡ start.answered → start.written ≡ now.written
      → IsRead answers start now xs
  unfolding with_line_feeds
  read_open start now xs plain before fits state line number answered written = record {
    lines = [];
    texts = [];
    splits = λ rest. ap split_lines (sym (append_assoc start.line xs rest) ∙ ap (λ l. l ++ rest) (sym line));
    ended = λ rest. ap ended_lines (sym (append_assoc start.line xs rest) ∙ ap (λ l. l ++ rest) (sym line));
    lines_fit = tt;
    open_line = record { fits = fits; plain = subst HasNoLineFeed (sym line) (HasNoLineFeed-append start.line xs before plain) };
    are_answered = AreAnswered-none answers start.state now.state state;
    text = subst (λ w. Appends start.written w []) written (Appends-none start.written);
    count = omega (arith, answered);
    number = omega (arith, number);
  }

  -- no byte
  pub read_none : (place : ReadPosition S) → IsOpenLine place.line → IsRead answers place place []
  read_none place is = read_open place place [] tt is.plain is.fits refl (sym (append-nil place.line)) refl refl refl

  -- LF
  pub read_ended : (start now : ReadPosition S) → IsOpenLine start.line → EndsLine answers start.state start.line now.state start.written now.written start.answered now.answered
      → now.line ≡ [] → now.number ≡ start.number + 1 → IsRead answers start now (line_feed ∷ [])
  read_ended start now is ends line number = record {
    lines = start.line ∷ [];
    texts = ends.texts;
    splits = λ rest. split_lines-ended start.line rest is.plain ∙ ap (λ l. start.line ∷ split_lines (l ++ rest)) (sym line);
    ended = λ rest. ended_lines-ended start.line rest is.plain ∙ ap (λ l. start.line ∷ ended_lines (l ++ rest)) (sym line);
    lines_fit = (is.fits, tt);
    open_line = subst IsOpenLine (sym line) (record { fits = omega arith; plain = tt });
    are_answered = ends.are_answered;
    text = ends.text;
    count = ends.count;
    number = number;
  }

  -- bytes, and then more of them
  pub read_more : (start between now : ReadPosition S) (xs ys : List ℕ) → IsRead answers start between xs → IsRead answers between now ys → IsRead answers start now (xs ++ ys)
  read_more start between now xs ys first later = record {
    lines = first.lines ++ later.lines;
    texts = first.texts ++ later.texts;
    splits = λ rest. ap (λ l. split_lines (start.line ++ l)) (append_assoc xs ys rest) ∙ first.splits (ys ++ rest) ∙ ap (λ l. first.lines ++ l) (later.splits rest)
        ∙ sym (append_assoc first.lines later.lines (split_lines (now.line ++ rest)));
    ended = λ rest. ap (λ l. ended_lines (start.line ++ l)) (append_assoc xs ys rest) ∙ first.ended (ys ++ rest) ∙ ap (λ l. first.lines ++ l) (later.ended rest)
        ∙ sym (append_assoc first.lines later.lines (ended_lines (now.line ++ rest)));
    lines_fit = all_join (λ line. length line ≤ longest_line) first.lines later.lines first.lines_fit later.lines_fit;
    open_line = later.open_line;
    are_answered = subst (λ l. AreAnswered answers start.state l (first.texts ++ later.texts) now.state) (sym (asking-append first.lines later.lines))
        (AreAnswered-append answers start.state between.state now.state _ _ _ _ first.are_answered later.are_answered);
    text = subst (Appends start.written now.written) (sym (with_line_feeds-append first.texts later.texts)) (Appends-more start.written between.written now.written _ _ first.text later.text);
    count = omega (arith, first.count, later.count, length-append first.texts later.texts);
    number = omega (arith, first.number, later.number, length-append first.lines later.lines);
  }
