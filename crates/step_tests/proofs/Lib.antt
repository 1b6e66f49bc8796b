mod Empty
