-- What a request asks for, as a value that doesn't depend on the memory that holds it.
use Rattle.rbac_sets.specs.CommandContent.{CommandContent, content_of}
use Rattle.review_mgr.specs.declared.query.Query.{Query}
use Rattle.role_json.specs.declared.request.Request.{Request}
use Rattle.role_json.specs.declared.request.Request.TheVariants as request

-- a command or a question
pub data RequestContent : Type 0 where
  Change : CommandContent → RequestContent
  Ask : Query → RequestContent

-- what a request asks for
abbrev pub requested : Request → RequestContent
requested (request.Change command) = Change (content_of command)
requested (request.Ask query) = Ask query
