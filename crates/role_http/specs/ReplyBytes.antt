-- The bytes of a reply.
use Rattle.std.specs.Prelude.{decimal, ℕ, ◌==◌, List, [], ◌∷◌, codes, length, unwrap_or, if◌then◌else◌}
use Rattle.http.specs.StatusCode.{reason_phrase}
use Rattle.role_http.specs.Pieces.{joined}

-- the further field of a reply with status 405; nothing for any other status
abbrev pub allow : ℕ → List ℕ
allow status = if status == 405 then codes "Allow: POST\r\n" else []

-- the reason phrase of a status
abbrev pub phrase : ℕ → List ℕ
phrase status = unwrap_or (reason_phrase status) (codes "<unknown status code>")

-- the pieces of a reply: its lines, each with CRLF, an empty line, and its body
abbrev pub pieces : List ℕ → List ℕ → List ℕ → List ℕ → List ℕ → List (List ℕ)
pieces code reason count more body =
    codes "HTTP/1.1 " ∷ code ∷ codes " " ∷ reason
    ∷ codes "\r\nContent-Type: application/json\r\nContent-Length: " ∷ count
    ∷ codes "\r\nConnection: close\r\n" ∷ more
    ∷ codes "\r\n" ∷ body
    ∷ []

-- the bytes of a reply with this status and this body
unfoldable pub reply_bytes : ℕ → List ℕ → List ℕ
reply_bytes status body = joined (pieces (decimal status) (phrase status) (decimal (length body)) (allow status) body)
