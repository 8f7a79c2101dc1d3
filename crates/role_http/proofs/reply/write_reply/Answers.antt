use Rattle.std.proofs.Common.{◌≡◌, ◌∙◌, ap, refl}
use Rattle.role_http.specs.Pieces.{joined}
use Rattle.role_http.specs.private.PieceReferences.{all_of}
use Rattle.role_http.specs.ReplyBytes.{reply_bytes}
use Rattle.role_http.proofs.reply.write_reply.Goals as goal

pub returns-clause-ok : goal.returns-clause-ok
unfolding reply_bytes
returns-clause-ok g c =
    let same : all_of c.pieces_of-pieces.result ≡ reply_bytes c.args.status c.args.body.now =
    ap joined c.pieces_of-pieces.ensures
    ∙ rw (c.as_bytes.ensures.value, c.as_bytes-2.ensures.value, c.as_bytes-3.ensures.value, c.format-code.ensures.text, c.format-count.ensures.text, c.as_u16.ensures.value, c.reason-reason.ensures, c.allow.ensures) refl in
    rw same at c.write_pieces.ensures.ok

pub returns-clause-part : goal.returns-clause-part
unfolding reply_bytes
returns-clause-part g c =
    let same : all_of c.pieces_of-pieces.result ≡ reply_bytes c.args.status c.args.body.now =
    ap joined c.pieces_of-pieces.ensures
    ∙ rw (c.as_bytes.ensures.value, c.as_bytes-2.ensures.value, c.as_bytes-3.ensures.value, c.format-code.ensures.text, c.format-count.ensures.text, c.as_u16.ensures.value, c.reason-reason.ensures, c.allow.ensures) refl in
    rw same at c.write_pieces.ensures.part
