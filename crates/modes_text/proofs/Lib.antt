-- Laws of what mode prints.
--
--     Selected   what the call for a selection leaves in its outputs
mod Selected
